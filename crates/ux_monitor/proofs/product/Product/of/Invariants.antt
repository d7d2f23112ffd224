use Rattle.ux_monitor.proofs.ProductLemmas.{AreNumbered}
use Rattle.ux_monitor.proofs.product.Product.of.Given as goal

abbrev pub invariant-loop-reading : goal.invariant-loop-reading
invariant-loop-reading l = AreNumbered l.parts l.of.items l.kinds.keys l.reading
