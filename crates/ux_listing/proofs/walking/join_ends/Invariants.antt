use Rattle.std.proofs.Common.{◌≡◌, ℕ}
use Rattle.ux_listing.specs.Reaching.{AreJoined, StaysTold}
use Rattle.ux_listing.proofs.ReachingLemmas.{PairsOf}
use Rattle.ux_listing.proofs.walking.join_ends.Given as goal

-- the pairs so far were joined
abbrev pub invariant-loop-end : goal.invariant-loop-end
invariant-loop-end g l = record {
  origins : g.O.Origins.is_sound l.origins;
  told : StaysTold (g.O.Origins.told l.fn.origins) (g.O.Origins.told l.origins);
  joined : AreJoined (g.M.Marks.marked l.marks)
      (PairsOf (λ (j : ℕ) (a b : ℕ). (a ≡ l.waits) × (b ≡ j)) l.ends l.end-index) l.fn.seen.keys l.seen.keys
      (g.O.Origins.told l.origins);
}
