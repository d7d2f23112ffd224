use Rattle.std.proofs.Common.{false}
use Rattle.std.proofs.lemmas.Bool.{not-false}
use Rattle.ux_automaton.specs.Kept.{store_of}
use Rattle.ux_walk.specs.Settings.{masked_setting}
use Rattle.ux_automaton.proofs.NowhereLemmas.{begins_nothing}
use Rattle.ux_automaton.proofs.kept.Kept.may_begin.Goals as goal

pub next_known-requires-clause-masks : goal.next_known-requires-clause-masks
next_known-requires-clause-masks c = (c.requires.right.closures false
    c.args.self.now.first c.in-Some.closed c.in-Some.ensures).masks

pub next_known-requires-clause-tokens : goal.next_known-requires-clause-tokens
next_known-requires-clause-tokens c = (c.requires.right.closures false
    c.args.self.now.first c.in-Some.closed c.in-Some.ensures).tokens

pub returns : goal.returns
returns c = λ no bare.
    let kept = c.args.self.now in
    begins_nothing (masked_setting c.args.masked.now) c.requires.table.belongs (store_of kept.fronts)
    kept.first c.in-Some.closed c.requires.right.first
    (c.requires.right.closures false kept.first c.in-Some.closed c.in-Some.ensures) c.args.start
    c.in-Some-next_known.next c.in-Some-next_known.ensures
    (c.leads_nowhere.ensures (not-false c.leads_nowhere.result no)) bare
