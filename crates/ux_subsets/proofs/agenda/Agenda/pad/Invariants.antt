use Rattle.std.proofs.Common.{◌≡◌, ℕ, ◌+◌, ◌-◌}
use Rattle.std.specs.VecDeque.{deque_len}
use Rattle.ux_subsets.specs.Agenda.{filed_in}
use Rattle.ux_subsets.proofs.agenda.Agenda.pad.Given as goal

-- nothing is in the new rows
abbrev pub invariant-loop-alloc : goal.invariant-loop-alloc
invariant-loop-alloc l = record {
  due : l.self.due ≡ l.fn.self.due;
  same : (k : ℕ) → filed_in l.self k ≡ filed_in l.fn.self k;
}

abbrev pub decreases-loop-alloc : goal.decreases-loop-alloc
decreases-loop-alloc l = l.place + 1 - deque_len l.self.rows
