use Rattle.std.proofs.Common.{ℕ, ◌<◌, [], get_or}
use Rattle.ux_masks.specs.Meets.{HasCharacters}
use Rattle.ux_masks.proofs.meeting.meets_alternative.Given as goal

-- no code so far has the characters
abbrev pub invariant-loop-number : goal.invariant-loop-number
invariant-loop-number l =
    (k : ℕ) → k < l.number → HasCharacters (get_or l.entry.infl k []) l.alternative → ⊥
