use Rattle.std.proofs.Common.{◌≡◌, ◌<◌, ◌++◌, true, length, string_bytes}
use denote.Text.{Utf8}
use denote.Shadow.{shadow}
use Rattle.ux_dela.specs.Written.{meant_as}
use Rattle.ux_dela.specs.Reading.{characters, characters_from, mark_sign}
use Rattle.ux_dela.proofs.plain.resolved.Given as goal

-- the text so far, and what the rest means
abbrev pub invariant-loop-place : goal.invariant-loop-place
invariant-loop-place l =
    shadow (Utf8 l.rest)
    × (l.protected ≡ true → 0 < length l.rest)
    × (string_bytes l.text ++ meant_as (mark_sign l.mark) (characters_from l.protected l.rest)
    ≡ meant_as (mark_sign l.mark) (characters l.part))

abbrev pub decreases-loop-place : goal.decreases-loop-place
decreases-loop-place l = length l.rest
