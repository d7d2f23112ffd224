use Rattle.std.proofs.Common.{◌≡◌, take}
use Rattle.ux_monitor.proofs.ProductLemmas.{kinds-at}
use Rattle.ux_monitor.proofs.product.kinds_in.Given as goal

abbrev pub invariant-loop-part : goal.invariant-loop-part
invariant-loop-part l = l.kinds.items ≡ kinds-at (take l.part-index l.parts) l.reading
