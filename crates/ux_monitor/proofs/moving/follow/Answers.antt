use Rattle.std.proofs.Common.{arith, ◌≡◌, refl, ap, inl, inr, length, Bool, true, false}
use Rattle.std.specs.Prelude.{IsTrue}
use Rattle.ux_monitor.proofs.FreeStepsLemmas.{walk_more, walk_on, work_falls}
use Rattle.ux_monitor.proofs.moving.follow.Goals as goal

no_true : (b : Bool) → b ≡ false → IsTrue b → ⊥
no_true true e h = cc
no_true false e h = cc

pub returns-then-not-is_new : goal.returns-then-not-is_new
returns-then-not-is_new c =
    let same = c.in_ok-is_new.ensures.stays (no_true _ c.if-not-is_new.true) in
    let here = (c.in_ok-is_new.ensures.exact c.args.place).1 (inr refl) in
    record {
      walk = λ from before popped w. walk_on c.args.steps.now from c.args.found.now.keys before
          c.args.ahead.now.items c.add.new.found.keys c.args.place popped same here w;
      less = (let e = ap length same in omega (arith, e));
    }

pub returns : goal.returns
returns c =
    let leaves = c.leaving.ensures in
    let added = c.in_ok-is_new.ensures in
    record {
      walk = λ from before popped w. walk_more c.args.steps.now from c.args.found.now.keys before
          c.args.ahead.now.items c.add.new.found.keys c.push_row_marked.new.ahead.items
          c.args.place popped added.exact
          (λ k. (
            λ h. elim ((c.in_ok-push_row_marked.ensures.exact k).0 h) [
              | inl o ↦ inl o
              | inr m ↦ inr (m.0, (leaves m.0).0 m.1, m.2)
            ],
            λ h. elim h [
              | inl o ↦ (c.in_ok-push_row_marked.ensures.exact k).1 (inl o)
              | inr m ↦ (c.in_ok-push_row_marked.ensures.exact k).1
                  (inr (m.0, (leaves m.0).1 m.1, m.2))
            ],
          )) w;
      less = work_falls (length c.args.found.now.keys) (length c.add.new.found.keys)
          (length c.args.ahead.now.items) (length c.push_row_marked.new.ahead.items)
          (added.grows c.if-not-is_new.false) added.room c.in_ok-push_row_marked.ensures.room;
    }
