use Rattle.std.proofs.Common.{◌≡◌, ℕ, get_or, refl, subst, sym}
use Rattle.std.specs.Prelude.{Contains}
use Rattle.ux_walk.proofs.Stepping.{item_at}
use Rattle.ux_listing.proofs.ReachingLemmas.{pairs_none, pairs_more, pairs_all}
use Rattle.ux_listing.proofs.walking.join_waits.Goals as goal

pub loop-caller-init : goal.loop-caller-init
loop-caller-init g c = record {
  origins = c.requires;
  told = λ i o h. h;
  joined = pairs_none (g.M.Marks.marked c.args.marks.now)
      (λ (i : ℕ) (a b : ℕ). (a ≡ i) × (b ≡ c.args.end)) c.args.waits.now c.args.seen.now.keys
      (g.O.Origins.told c.args.origins.now);
}

pub loop-caller-preserved : goal.loop-caller-preserved
loop-caller-preserved g c = record {
  origins = c.in_ok-join.ensures.origins;
  told = λ i o h. c.in_ok-join.ensures.told i o (c.loop-caller.invariant.told i o h);
  joined = pairs_more (g.M.Marks.marked c.args.marks.now)
      (λ (i : ℕ) (a b : ℕ). (a ≡ i) × (b ≡ c.args.end)) c.args.waits.now c.args.seen.now.keys
      c.loop-caller.seen.keys c.join.new.seen.keys (g.O.Origins.told c.loop-caller.origins)
      (g.O.Origins.told c.join.new.origins) c.in_ok-join.ensures.told c.loop-caller.caller-index
      (get_or c.args.waits.now c.loop-caller.caller-index 0) c.loop-caller-test.true
      (item_at c.args.waits.now c.loop-caller.caller-index 0 c.loop-caller-test.true)
      c.loop-caller.invariant.joined c.in_ok-join.ensures.joined;
}

pub returns-clause-joined : goal.returns-clause-joined
returns-clause-joined g c = pairs_all (g.M.Marks.marked c.args.marks.now)
    (λ (i : ℕ) (a b : ℕ). (a ≡ i) × (b ≡ c.args.end)) c.args.waits.now
    (λ i j. (j ≡ c.args.end) × Contains c.args.waits.now i) (λ i j p. (i, p.1, (refl, p.0)))
    (λ i j s h p. (p.1, subst (Contains c.args.waits.now) (sym p.0) h))
    c.args.seen.now.keys c.loop-caller.seen.keys (g.O.Origins.told c.loop-caller.origins)
    c.loop-caller.caller-index c.loop-caller-test.false c.loop-caller.invariant.joined
