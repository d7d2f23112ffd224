use Rattle.std.proofs.Common.{arith, ◌≤◌, ap, get_or}
use Rattle.std.proofs.lemmas.List.{get_or_default}
use Rattle.ux_subsets.specs.declared.automaton.Link.{Link}
use Rattle.ux_subsets.proofs.DeparturesLemmas.{is_start}
use Rattle.ux_subsets.proofs.departures.start_from.Goals as goal

abbrev nowhere : Link
nowhere = record { from = 0; reading = 0; to = 0 }

pub returns-else-sorted-start : goal.returns-else-sorted-start
returns-else-sorted-start c = λ up le before.
    let now = c.loop-start.invariant le before in
    is_start c.args.sorted.now up c.args.state c.loop-start.start now.0 now.1 (λ lt d.
    let e = ap (λ (x : Link). x.from) (get_or_default c.args.sorted.now c.loop-start.start d nowhere lt) in
    let high : c.args.state ≤ (get_or c.args.sorted.now c.loop-start.start nowhere).from = c.if-sorted-start.false in
    omega (arith, e, high))
