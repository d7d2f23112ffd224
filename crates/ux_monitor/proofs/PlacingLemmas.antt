-- Steps in rows, by the places that they leave.
use Rattle.std.proofs.Common.{◌≡◌, ℕ, ◌+◌, ◌<◌, List, [], ◌∷◌, ◌++◌, ap, get_or, ◌⊎◌, ◌↔◌, inl, inr, sym, ◌∙◌, subst, length, take, Vec}
use Rattle.std.proofs.lemmas.List.Elements.{Contains-append_left, Contains-push, Contains-push_cases}
use Rattle.std.proofs.lemmas.List.{take_more}
use Rattle.ux_subsets.specs.Rows.{row_at}
use Rattle.std.specs.Prelude.{Contains}
use Rattle.ux_monitor.specs.declared.rule.Step.{Step}
use Rattle.ux_monitor.specs.Steps.{AreByPlace}
use Rattle.ux_base.proofs.Lists.{nothing_in}

pub none_placed : {Z : Type 0} (steps : List Step) (rows : List (Vec Step Z)) →
    ((p : ℕ) → row_at rows p ≡ []) → AreByPlace (take 0 steps) rows
none_placed steps rows none p s = (
  λ h. absurd (nothing_in (subst (λ (xs : List Step). Contains xs s) (none p) h)),
  λ h. absurd (in_none steps h.0),
)
  where
    in_none : (xs : List Step) → Contains (take 0 xs) s → ⊥
    in_none [] h = nothing_in h
    in_none (x ∷ xs) h = nothing_in h

pub one_placed : {Z : Type 0} (steps : List Step) (i : ℕ) (d : Step)
    (rows rows' : List (Vec Step Z)) → i < length steps →
    ((p : ℕ) (s : Step) → Contains (row_at rows' p) s ↔ (Contains (row_at rows p) s
    ⊎ ((p ≡ (get_or steps i d).from) × (s ≡ get_or steps i d)))) →
    AreByPlace (take i steps) rows → AreByPlace (take (i + 1) steps) rows'
one_placed steps i d rows rows' inside put old p s =
    let one = get_or steps i d in
    subst (λ (xs : List Step). Contains (row_at rows' p) s ↔ (Contains xs s × (s.from ≡ p)))
    (sym (take_more steps i d inside)) (
      λ h. elim ((put p s).0 h) [
        | inl o ↦
            let x = (old p s).0 o in
            (Contains-append_left (take i steps) (one ∷ []) s x.0, x.1)
        | inr n ↦ (
          subst (λ (x : Step). Contains (take i steps ++ one ∷ []) x) (sym n.1)
              (Contains-push (take i steps) one),
          ap (λ (x : Step). x.from) n.1 ∙ sym n.0,
        )
      ],
      λ h. elim (Contains-push_cases (take i steps) one s h.0) [
        | inl o ↦ (put p s).1 (inl ((old p s).1 (o, h.1)))
        | inr e ↦ (put p s).1 (inr (sym h.1 ∙ ap (λ (x : Step). x.from) (sym e), sym e))
      ],
    )
