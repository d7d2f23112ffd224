use Rattle.std.proofs.Common.{◌≡◌, take}
use Rattle.ux_flatten.specs.Paths.{target_rows}
use Rattle.ux_flatten.proofs.words.targets_of.Given as goal

-- the rows so far
abbrev pub invariant-loop-state : goal.invariant-loop-state
invariant-loop-state l = l.rows.items ≡ target_rows (take l.state-index l.states)
