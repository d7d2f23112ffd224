use Rattle.ux_subsets.proofs.ClosedLemmas.{reached_pass}
use Rattle.ux_subsets.proofs.passes.subsets_of.Goals as goal

pub returns-clause-pass : goal.returns-clause-pass
returns-clause-pass g c = λ up.
    let reached = c.in_ok-reached.reached in
    let s = c.in_ok-reached.ensures.reached up in
    reached_pass c.args.last c.args.source.items s.0 reached.links.items reached.overs.items reached.so_far.count reached.so_far.all s.1
    c.in_ok-found.found.last c.in_ok-found.found.links.items c.in_ok-found.ensures
