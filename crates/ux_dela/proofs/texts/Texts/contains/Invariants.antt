use Rattle.std.proofs.Common.{◌≡◌, ℕ, ◌<◌, [], get_or}
use Rattle.ux_dela.proofs.texts.Texts.contains.Given as goal

-- the text is none of those so far
abbrev pub invariant-loop-number : goal.invariant-loop-number
invariant-loop-number l = (k : ℕ) → k < l.number → get_or l.self k [] ≡ l.text → ⊥
