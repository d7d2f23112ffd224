use Rattle.std.proofs.Common.{◌≡◌, ◌<◌, ◌++◌, true, length, string_bytes}
use denote.Text.{Utf8}
use denote.Shadow.{shadow}
use Rattle.ux_masks.specs.Names.{means}
use Rattle.ux_dela.specs.Reading.{characters}
use Rattle.ux_dela.specs.Written.{meant}
use Rattle.ux_masks.proofs.name.meaning.Given as goal

-- the text so far, and what the rest means
abbrev pub invariant-loop-place : goal.invariant-loop-place
invariant-loop-place l =
    shadow (Utf8 l.rest)
    × (l.protected ≡ true → 0 < length l.rest)
    × (string_bytes l.text ++ means l.protected l.rest ≡ meant (characters l.name))

abbrev pub decreases-loop-place : goal.decreases-loop-place
decreases-loop-place l = length l.rest
