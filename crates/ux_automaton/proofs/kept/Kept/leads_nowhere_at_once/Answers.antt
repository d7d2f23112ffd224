use Rattle.std.proofs.Common.{◌+◌, sym, subst}
use Rattle.ux_automaton.specs.Fronts.{HoldsIn}
use Rattle.ux_automaton.specs.Kept.{store_of}
use Rattle.ux_walk.specs.Settings.{masked_setting}
use Rattle.ux_automaton.specs.Onwards.{LeadNowhere}
use Rattle.ux_automaton.proofs.NowhereLemmas.{nowhere, nowhere_from_0}
use Rattle.ux_automaton.proofs.kept.Kept.leads_nowhere_at_once.Goals as goal

pub returns : goal.returns
returns c = λ yes.
    let setting = masked_setting c.args.masked.now in
    let store = store_of c.args.self.now.fronts in
    nowhere setting c.requires.table.belongs store c.args.front c.args.at c.is_space.result
    c.is_space.ensures.space c.in-Some.closed (c.requires.right.closures c.is_space.result
    c.args.front c.in-Some.closed c.in-Some.ensures) (c.is_stuck.ensures.ends yes)
    (subst (λ n. LeadNowhere setting (HoldsIn store n) (c.args.at + 1))
    (sym (c.is_nothing.ensures c.if-not-is_nothing.false)) (nowhere_from_0 setting store (c.args.at + 1)))
    (c.is_stuck.ensures.only yes)

pub is_stuck-requires-clause-masks : goal.is_stuck-requires-clause-masks
is_stuck-requires-clause-masks c = (c.requires.right.closures c.is_space.result
    c.args.front c.in-Some.closed c.in-Some.ensures).masks

pub is_stuck-requires-clause-tokens : goal.is_stuck-requires-clause-tokens
is_stuck-requires-clause-tokens c = (c.requires.right.closures c.is_space.result
    c.args.front c.in-Some.closed c.in-Some.ensures).tokens
