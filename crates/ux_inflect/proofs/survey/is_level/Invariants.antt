use Rattle.std.proofs.Common.{◌≡◌, ℕ, get_or, take}
use Rattle.std.specs.Prelude.{Contains}
use Rattle.ux_inflect.proofs.survey.is_level.Given as goal

-- no node so far has the number
abbrev pub invariant-loop-node : goal.invariant-loop-node
invariant-loop-node l = (v : ℕ) → Contains (take l.node-index l.row) v → get_or l.numbers v 0 ≡ l.number → ⊥
