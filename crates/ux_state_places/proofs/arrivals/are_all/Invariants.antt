use Rattle.std.proofs.Common.{◌≡◌, ℕ, ◌<◌}
use Rattle.std.specs.Prelude.{slice_index_or}
use Rattle.ux_state_places.proofs.arrivals.are_all.Given as goal

-- none so far is another
abbrev pub invariant-loop-other : goal.invariant-loop-other
invariant-loop-other l = (n : ℕ) → n < l.other-index → slice_index_or l.kinds n l.kind ≡ l.kind
