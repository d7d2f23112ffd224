use Rattle.std.proofs.Common.{◌≡◌, ℕ, ◌+◌, ◌-◌, get_or, length}
use Rattle.ux_listing.proofs.groups.put_in.Given as goal

-- each place has what it had
abbrev pub invariant-loop-numbers : goal.invariant-loop-numbers
invariant-loop-numbers l = (n : ℕ) → get_or l.numbers.items n 0 ≡ get_or l.fn.numbers.items n 0

abbrev pub decreases-loop-numbers : goal.decreases-loop-numbers
decreases-loop-numbers l = l.place + 1 - length l.numbers.items
