use Rattle.std.proofs.Common.{◌≡◌, take}
use Rattle.ux_image.specs.Images.{lists_of}
use Rattle.ux_image.specs.Lent.{lent}
use Rattle.ux_image.proofs.image.lists_in.Given as goal

abbrev pub invariant-loop-number : goal.invariant-loop-number
invariant-loop-number l =
    lent l.used.items
    ≡ lists_of l.lists.keys (take l.number-index l.number-items)
