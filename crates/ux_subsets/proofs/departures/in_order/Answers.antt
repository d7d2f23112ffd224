use Rattle.std.specs.Ordering.{is_lt}
use Rattle.std.proofs.lemmas.List.Sorted.{ranks_by, sorted_far}
use Rattle.ux_subsets.proofs.departures.in_order.Goals as goal

pub returns-clause-in_order : goal.returns-clause-in_order
returns-clause-in_order g c =
    sorted_far (λ x y. is_lt (g.T.Ord.cmp x y)) (ranks_by g.met.T.Ord.total (λ x. x)) _ c.sort_unstable.ensures.sorted
