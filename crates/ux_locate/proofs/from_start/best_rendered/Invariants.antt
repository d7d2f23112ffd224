use Rattle.std.proofs.Common.{List, [], take}
use Rattle.std.specs.Prelude.{Contains}
use Rattle.ux_outputs.specs.declared.hit.Hit.{Hit}
use Rattle.ux_walk.specs.Noting.{Includes}
use Rattle.ux_walk.proofs.Collecting.{Among}
use Rattle.ux_locate.specs.Finding.{IsRendered}
use Rattle.ux_locate.specs.Keeping.{AreBest, last_of}
use Rattle.ux_locate.proofs.from_start.best_rendered.Given as goal

-- they are the best of those that the derivations so far render
abbrev pub invariant-loop-derivation : goal.invariant-loop-derivation
invariant-loop-derivation l = (seen : List Hit)
    × Includes (Among (IsRendered l.search l.start) (take l.derivation-index l.found)) [] seen
    × AreBest l.policy last_of (Contains seen) l.best.items
