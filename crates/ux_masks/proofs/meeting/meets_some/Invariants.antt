use Rattle.std.proofs.Common.{ℕ, ◌<◌, [], get_or}
use Rattle.ux_masks.specs.Meets.{MeetsAlternative}
use Rattle.ux_masks.proofs.meeting.meets_some.Given as goal

-- the entry meets no alternative so far
abbrev pub invariant-loop-alternative : goal.invariant-loop-alternative
invariant-loop-alternative l =
    (k : ℕ) → k < l.alternative-index →
    MeetsAlternative l.entry (get_or l.alternative-items k []) → ⊥
