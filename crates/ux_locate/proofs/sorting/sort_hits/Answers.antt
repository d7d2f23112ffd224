use Rattle.ux_locate.proofs.OrderLemmas.{hits_in_order}
use Rattle.ux_locate.proofs.sorting.sort_hits.Goals as goal

pub returns-clause-in_order : goal.returns-clause-in_order
returns-clause-in_order c = hits_in_order c.sort_once.new.items.items c.sort_once.ensures.sorted
