use Rattle.std.proofs.Common.{◌≡◌, take, length}
use Rattle.ux_base.specs.Distinct.{AreFirsts}
use Rattle.ux_grf.specs.Boxes.{Stamped}
use Rattle.ux_grf.proofs.targets.each_once.Given as goal

-- the targets so far are kept once, and stamped
abbrev pub invariant-loop-target : goal.invariant-loop-target
invariant-loop-target l =
    AreFirsts (take l.target-index l.targets) l.kept.items
    × (length l.stamps.items ≡ length l.fn.stamps.items)
    × Stamped (length l.fn.stamps.items) l.stamp l.stamps.items l.kept.items
