use Rattle.std.proofs.Common.{ℕ, ◌↔◌, take}
use Rattle.std.specs.Prelude.{Contains}
use Rattle.ux_monitor.proofs.watching.set_of.Given as goal

-- the tests so far are in the set
abbrev pub invariant-loop-test : goal.invariant-loop-test
invariant-loop-test l =
    (t : ℕ) → Contains l.set.keys t ↔ Contains (take l.test-index l.tests) t
