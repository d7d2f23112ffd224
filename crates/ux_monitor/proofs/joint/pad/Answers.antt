use Rattle.std.proofs.Common.{arith, ◌≡◌, ◌∷◌, [], ℕ, List, ap, subst, length, length-append}
use Rattle.std.specs.Prelude.{None, Option, Some, slice_get}
use Rattle.ux_monitor.proofs.PartsLemmas.{push-none}
use Rattle.ux_monitor.proofs.joint.pad.Goals as goal

pub loop-index-preserved : goal.loop-index-preserved
loop-index-preserved c =
    let was = c.loop-index.rows.items in
    let is = c.in_ok-push.ensures.items in
    let none : Option ℕ = None in
    let len = length-append was (none ∷ []) in
    let counted = c.loop-index.invariant.counted in
    let long = ap length is in
    record {
      counted = omega (arith, len, counted, long);
      kept = λ here number at. c.loop-index.invariant.kept here number (push-none was here number
          (subst (λ (rs : List (Option ℕ)). slice_get rs here ≡ Some (Some number)) is at));
    }
