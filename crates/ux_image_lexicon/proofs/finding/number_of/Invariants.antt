use Rattle.std.proofs.Common.{ℕ, ◌↔◌, ◌<◌, drop, length}
use Rattle.std.specs.Str.{chars}
use Rattle.ux_dawg.specs.Paths.{Accepts, IsPath}
use Rattle.ux_image_lexicon.proofs.finding.number_of.Given as goal

-- the characters that are left lead on from here as all of them do from the root
abbrev pub invariant-loop-c : goal.invariant-loop-c
invariant-loop-c l =
    (l.number < length l.states) × ((c : ℕ) →
    IsPath l.states l.number (drop (length l.yielded) (chars l.text)) c
    ↔ Accepts l.states (chars l.text) c)
