use Rattle.std.proofs.Common.{◌≡◌, ◌↔◌, ℕ, ◌<◌, get_or, length}
use Rattle.std.specs.Prelude.{Contains}
use Rattle.ux_subsets.specs.Rows.{row_at}
use Rattle.ux_inflect.proofs.least.turns_of.Given as goal

-- the nodes so far have their turns
abbrev pub invariant-loop-node : goal.invariant-loop-node
invariant-loop-node l = (length l.turns.items ≡ length l.links)
    × ((k x : ℕ) → Contains (row_at l.turns.items k) x
    ↔ ((x < l.node) × (k ≡ get_or l.numbers.items x 0)))
