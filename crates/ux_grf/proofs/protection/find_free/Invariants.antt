use Rattle.std.proofs.Common.{◌≡◌, false, ◌+◌, drop}
use Rattle.std.specs.Prelude.{option_map}
use Rattle.ux_grf.specs.Protection.{first_free}
use Rattle.ux_grf.proofs.protection.find_free.Given as goal

-- the sign isn't passed
abbrev pub invariant-loop-place : goal.invariant-loop-place
invariant-loop-place l =
    first_free l.stop false l.text ≡ option_map (λ k. l.place + k) (first_free l.stop l.protected
    (drop l.place l.text))
