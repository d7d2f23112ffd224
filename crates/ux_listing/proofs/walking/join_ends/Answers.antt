use Rattle.std.proofs.Common.{◌≡◌, ℕ, get_or, refl, subst, sym}
use Rattle.std.specs.Prelude.{Contains}
use Rattle.ux_walk.proofs.Stepping.{item_at}
use Rattle.ux_listing.proofs.ReachingLemmas.{pairs_none, pairs_more, pairs_all}
use Rattle.ux_listing.proofs.walking.join_ends.Goals as goal

pub loop-end-init : goal.loop-end-init
loop-end-init g c = record {
  origins = c.requires;
  told = λ i o h. h;
  joined = pairs_none (g.M.Marks.marked c.args.marks.now)
      (λ (j : ℕ) (a b : ℕ). (a ≡ c.args.waits) × (b ≡ j)) c.args.ends.now c.args.seen.now.keys
      (g.O.Origins.told c.args.origins.now);
}

pub loop-end-preserved : goal.loop-end-preserved
loop-end-preserved g c = record {
  origins = c.in_ok-join.ensures.origins;
  told = λ i o h. c.in_ok-join.ensures.told i o (c.loop-end.invariant.told i o h);
  joined = pairs_more (g.M.Marks.marked c.args.marks.now)
      (λ (j : ℕ) (a b : ℕ). (a ≡ c.args.waits) × (b ≡ j)) c.args.ends.now c.args.seen.now.keys
      c.loop-end.seen.keys c.join.new.seen.keys (g.O.Origins.told c.loop-end.origins)
      (g.O.Origins.told c.join.new.origins) c.in_ok-join.ensures.told c.loop-end.end-index
      (get_or c.args.ends.now c.loop-end.end-index 0) c.loop-end-test.true
      (item_at c.args.ends.now c.loop-end.end-index 0 c.loop-end-test.true)
      c.loop-end.invariant.joined c.in_ok-join.ensures.joined;
}

pub returns-clause-joined : goal.returns-clause-joined
returns-clause-joined g c = pairs_all (g.M.Marks.marked c.args.marks.now)
    (λ (j : ℕ) (a b : ℕ). (a ≡ c.args.waits) × (b ≡ j)) c.args.ends.now
    (λ i j. (i ≡ c.args.waits) × Contains c.args.ends.now j) (λ i j p. (j, p.1, (p.0, refl)))
    (λ i j s h p. (p.0, subst (Contains c.args.ends.now) (sym p.1) h))
    c.args.seen.now.keys c.loop-end.seen.keys (g.O.Origins.told c.loop-end.origins)
    c.loop-end.end-index c.loop-end-test.false c.loop-end.invariant.joined
