use Rattle.std.proofs.Common.{arith, ◌+◌}
use Rattle.std.proofs.lemmas.Map.Keys.{below_from_sorted}
use Rattle.ux_chart.proofs.ordering.order_positions.Goals as goal

pub returns-clause-ascending : goal.returns-clause-ascending
returns-clause-ascending c = λ k h.
    below_from_sorted c.sort_once.new.items.items k (k + 1) 0 c.sort_once.ensures.sorted
    (omega arith) h
