-- A stamp tells whether a target was met, so that each is kept once.
use Rattle.std.proofs.Common.{arith, ◌≡◌, ◌≢◌, ◌⊎◌, inl, inr, ℕ, zero, suc, ◌+◌, ◌<◌, List, [], ◌∷◌, ◌++◌, refl, sym, ◌∙◌, ap, subst, length, get_or, length-set, take}
use Rattle.std.specs.Prelude.{Contains, slice_set}
use Rattle.std.proofs.lemmas.List.{get_or-set_same, get_or-set_other, take_more}
use Rattle.std.proofs.lemmas.List.Elements.{Contains-append_left, Contains-push, Contains-push_cases}
use Rattle.ux_base.specs.Distinct.{AreFirsts, GrowsBy}
use Rattle.ux_base.proofs.FirstsLemmas.{AreFirsts-known, AreFirsts-new}
use Rattle.ux_grf.specs.Boxes.{Stamped}

same_or : (a b : ℕ) → (a ≡ b) ⊎ (a ≢ b)
same_or zero zero = inl refl
same_or (suc a) zero = inr (λ e. absurd (omega (arith, e)))
same_or zero (suc b) = inr (λ e. absurd (omega (arith, e)))
same_or (suc a) (suc b) = elim (same_or a b) [
  | inl e ↦ inl (ap suc e)
  | inr n ↦ inr (λ e. n (omega (arith, e)))
]

module _ (count stamp : ℕ) (stamps kept : List ℕ) (h : Stamped count stamp stamps kept)
    (target : ℕ) (inside : target < count) where
  -- a target that was met is known
  pub known_target : get_or stamps target 0 ≡ stamp → GrowsBy (target ∷ []) kept kept
  known_target is seen firsts =
      AreFirsts-known seen kept target firsts (h.stamped target inside is)

  -- one that wasn't goes last, with its stamp
  module _ (apart : get_or stamps target 0 ≡ stamp → ⊥) where
    pub new_target : GrowsBy (target ∷ []) kept (kept ++ target ∷ [])
    new_target seen firsts =
        AreFirsts-new seen kept target firsts (h.fresh target inside apart)

    pub stamped_more : Stamped count stamp (slice_set stamps target stamp) (kept ++ target ∷ [])
    stamped_more = record {
      len = length-set stamps target stamp ∙ h.len;
      stamped = λ u lt is. elim (same_or u target) [
        | inl e ↦ subst (Contains (kept ++ target ∷ [])) (sym e) (Contains-push kept target)
        | inr n ↦ Contains-append_left kept (target ∷ []) u
            (h.stamped u lt (sym (get_or-set_other stamps target u stamp 0 n) ∙ is))
      ];
      fresh = λ u lt none has. elim (Contains-push_cases kept target u has) [
        | inl there ↦
            h.fresh u lt
            (λ is. elim (same_or u target) [
              | inl e ↦ apart (ap (λ n. get_or stamps n 0) (sym e) ∙ is)
              | inr n ↦ none (get_or-set_other stamps target u stamp 0 n ∙ is)
            ]) there
        | inr e ↦ none (ap (λ n. get_or (slice_set stamps target stamp) n 0) (sym e) ∙ set_here)
      ];
      below = λ u. elim (same_or u target) [
        | inl e ↦ omega (arith, ap (λ n. get_or (slice_set stamps target stamp) n 0) e, set_here)
        | inr n ↦ omega (arith, get_or-set_other stamps target u stamp 0 n, h.below u)
      ];
    }
      where
        set_here : get_or (slice_set stamps target stamp) target 0 ≡ stamp
        set_here = get_or-set_same stamps target stamp 0 (omega (arith, inside, h.len))

-- the targets so far, with one more
pub firsts_more : (targets kept new : List ℕ) (i target : ℕ) → i < length targets →
    target ≡ get_or targets i 0 → AreFirsts (take i targets) kept →
    GrowsBy (target ∷ []) kept new → AreFirsts (take (i + 1) targets) new
firsts_more targets kept new i target within is firsts grows =
    subst (λ (xs : List ℕ). AreFirsts xs new)
    (sym (take_more targets i 0 within
    ∙ ap (λ t. take i targets ++ t ∷ []) (sym is))) (grows (take i targets) firsts)
