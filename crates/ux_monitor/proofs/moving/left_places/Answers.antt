use Rattle.std.proofs.Common.{ℕ, List, [], ◌∷◌, ◌↔◌, ◌⊎◌, inl, inr, subst}
use Rattle.std.specs.Prelude.{Contains}
use Rattle.ux_monitor.specs.Rules.{Run}
use Rattle.ux_monitor.specs.Steps.{Marks, Reads}
use Rattle.ux_monitor.proofs.NotingLemmas.{from_one, at_one}
use Rattle.ux_monitor.proofs.FreeStepsLemmas.{reaches_both, marks_run, reads_run}
use Rattle.ux_monitor.proofs.moving.left_places.Goals as goal

pub returns : goal.returns
returns c =
    let steps = c.args.steps.now in
    let here = c.in_ok-here.here.items in
    let start = c.in_ok-start.start.items in
    let passed = c.args.passed.now.keys in
    let mark = c.args.mark in
    let none = c.new-ahead.result.items in
    let some = c.push_read.new.ahead.items in
    let ahead = c.push_marked.new.ahead.items in
    let first = subst (λ (xs : List ℕ). (k : ℕ) → Contains some k ↔
    (Contains none k ⊎ ((p : ℕ) × Contains xs p × Reads steps passed p k)))
    c.as_slice.ensures.value c.in_ok-push_read.ensures in
    let second = subst (λ (xs : List ℕ). (k : ℕ) → Contains ahead k ↔
    (Contains some k ⊎ ((p : ℕ) × Contains xs p × Marks steps mark p k)))
    c.as_slice-2.ensures.value c.in_ok-push_marked.ensures in
    λ k.
    let both = reaches_both steps (λ a. (p : ℕ) × Contains here p × Reads steps passed p a)
    (λ a. (p : ℕ) × Contains start p × Marks steps mark p a) none some ahead
    c.new-ahead.ensures.items first second k in
    let opens = marks_run steps (0 ∷ []) start c.in_ok-start.ensures mark c.requires k in
    let moves = reads_run steps c.args.from.now here c.in_ok-here.ensures passed k in (
      λ h. elim (both.0 ((c.in_ok-list.ensures k).0 h)) [
        | inl m ↦ inl (from_one (λ p. Run steps p k (mark ∷ [])) (opens.0 m))
        | inr r ↦ inr (moves.0 r)
      ],
      λ h. (c.in_ok-list.ensures k).1 (both.1 (elim h [
        | inl o ↦ inl (opens.1 (at_one (λ p. Run steps p k (mark ∷ [])) o))
        | inr r ↦ inr (moves.1 r)
      ])),
    )
