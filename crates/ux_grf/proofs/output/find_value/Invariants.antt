use Rattle.std.proofs.Common.{◌≡◌, false, ◌+◌, drop}
use Rattle.std.specs.Prelude.{option_map}
use Rattle.ux_grf.specs.Output.{first_value}
use Rattle.ux_grf.proofs.output.find_value.Given as goal

-- the value isn't passed
abbrev pub invariant-loop-place : goal.invariant-loop-place
invariant-loop-place l =
    first_value false l.text ≡ option_map (λ k. l.place + k) (first_value l.protected
    (drop l.place l.text))
