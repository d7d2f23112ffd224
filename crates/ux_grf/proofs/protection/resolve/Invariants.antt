use Rattle.std.proofs.Common.{◌≡◌, ◌++◌, false, length, string_bytes}
use denote.Text.{Utf8}
use denote.Shadow.{shadow}
use Rattle.ux_grf.specs.Protection.{resolved}
use Rattle.ux_grf.proofs.protection.resolve.Given as goal

-- the text so far, and that of the rest
abbrev pub invariant-loop-place : goal.invariant-loop-place
invariant-loop-place l =
    shadow (Utf8 l.rest)
    × (string_bytes l.plain ++ resolved l.layer l.protected l.rest ≡ resolved l.layer false l.text)

abbrev pub decreases-loop-place : goal.decreases-loop-place
decreases-loop-place l = length l.rest
