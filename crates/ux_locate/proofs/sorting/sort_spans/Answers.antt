use Rattle.ux_locate.proofs.OrderLemmas.{spans_in_order}
use Rattle.ux_locate.proofs.sorting.sort_spans.Goals as goal

pub returns-clause-in_order : goal.returns-clause-in_order
returns-clause-in_order c = spans_in_order c.sort_once.new.items.items c.sort_once.ensures.sorted
