use Rattle.std.proofs.Common.{ℕ, ◌<◌, ◌↔◌}
use Rattle.ux_dawg.specs.Indexed.{buckets, AreIndexed, Holds}
use Rattle.ux_dawg.specs.Repeated.{IsRepeated}
use Rattle.ux_dawg.proofs.repeated.first_repeated.Given as goal

-- the states so far are in the index, and none is repeated
abbrev pub invariant-loop-number : goal.invariant-loop-number
invariant-loop-number l =
    AreIndexed l.states l.index
    × ((m : ℕ) → Holds l.index m ↔ (m < l.number))
    × (0 < buckets l.index)
    × ((m : ℕ) → m < l.number → IsRepeated l.states m → ⊥)
