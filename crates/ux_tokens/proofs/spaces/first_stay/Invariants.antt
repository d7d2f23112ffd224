use Rattle.std.proofs.Common.{◌≡◌, true}
use Rattle.ux_tokens.specs.Spaces.{FirstStay}
use Rattle.ux_tokens.proofs.spaces.first_stay.Given as goal

-- every byte so far stays
abbrev pub invariant-loop-place : goal.invariant-loop-place
invariant-loop-place l = l.all ≡ true → FirstStay l.place l.block
