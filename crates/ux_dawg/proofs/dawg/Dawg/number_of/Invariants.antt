use Rattle.std.proofs.Common.{ℕ, drop, ◌↔◌}
use Rattle.ux_dawg.specs.Paths.{Accepts, IsPath}
use Rattle.ux_dawg.proofs.dawg.Dawg.number_of.Given as goal

-- the letters that are left lead on from here as all of them do from the root
abbrev pub invariant-loop-letter : goal.invariant-loop-letter
invariant-loop-letter l = (c : ℕ) →
    IsPath l.self l.state (drop l.letter-index l.letters) c ↔ Accepts l.self l.letters c
