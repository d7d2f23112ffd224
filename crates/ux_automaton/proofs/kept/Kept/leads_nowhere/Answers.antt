use Rattle.ux_automaton.specs.Kept.{store_of}
use Rattle.ux_walk.specs.Settings.{masked_setting}
use Rattle.ux_automaton.proofs.NowhereLemmas.{nowhere}
use Rattle.ux_automaton.proofs.kept.Kept.leads_nowhere.Goals as goal

pub returns : goal.returns
returns c = λ yes. nowhere (masked_setting c.args.masked.now) c.requires.table.belongs
    (store_of c.args.self.now.fronts) c.args.front c.args.at c.is_space.result
    c.is_space.ensures.space c.in-Some.closed (c.requires.right.closures c.is_space.result
    c.args.front c.in-Some.closed c.in-Some.ensures) (c.is_stuck.ensures.ends c.if-not-is_stuck.false)
    (c.leads_nowhere_at_once.ensures yes) (c.is_stuck.ensures.only c.if-not-is_stuck.false)

pub is_stuck-requires-clause-masks : goal.is_stuck-requires-clause-masks
is_stuck-requires-clause-masks c = (c.requires.right.closures c.is_space.result
    c.args.front c.in-Some.closed c.in-Some.ensures).masks

pub is_stuck-requires-clause-tokens : goal.is_stuck-requires-clause-tokens
is_stuck-requires-clause-tokens c = (c.requires.right.closures c.is_space.result
    c.args.front c.in-Some.closed c.in-Some.ensures).tokens
