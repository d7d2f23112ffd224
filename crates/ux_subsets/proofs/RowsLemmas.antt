-- A row after one more item.
use Rattle.std.proofs.Common.{◌≡◌, ℕ, ◌<◌, List, [], ◌∷◌, ◌++◌, ◌↔◌, refl, sym, subst, ◌⊎◌, inl, inr, length, get_or, map, set, Vec}
use Rattle.std.specs.Prelude.{Contains}
use Rattle.std.proofs.lemmas.List.{get_or-set_same, get_or-set_other, length-map}
use Rattle.std.proofs.lemmas.List.Elements.{Contains-append_left, Contains-push, Contains-push_cases}
use Rattle.ux_base.proofs.Lists.{same_or}
use Rattle.ux_subsets.specs.Rows.{row_at}

-- the row has one item more, and the others stay
pub put_iff : {T Z : Type 0} (rows : List (Vec T Z)) (p : ℕ) (item : T) → p < length rows → (new : List (List T)) →
    new ≡ set (map (λ row. row.items) rows) p (row_at rows p ++ item ∷ []) → (k : ℕ) (x : T) →
    Contains (get_or new k []) x ↔ (Contains (row_at rows k) x ⊎ ((k ≡ p) × (x ≡ item)))
put_iff {T} rows p item inside new is k x =
    let lists = map (λ row. row.items) rows in
    let within : p < length lists = subst (λ (n : ℕ). p < n) (sym (length-map rows (λ row. row.items))) inside in
    subst (λ (ls : List (List T)). Contains (get_or ls k []) x ↔ (Contains (row_at rows k) x ⊎ ((k ≡ p) × (x ≡ item)))) (sym is)
    (elim (same_or k p) [
      | inl e ↦ subst (λ (i : ℕ). Contains (get_or (set lists p (row_at rows p ++ item ∷ [])) i []) x ↔ (Contains (row_at rows i) x ⊎ ((i ≡ p) × (x ≡ item)))) (sym e)
          (subst (λ (xs : List T). Contains xs x ↔ (Contains (row_at rows p) x ⊎ ((p ≡ p) × (x ≡ item)))) (sym (get_or-set_same lists p (row_at rows p ++ item ∷ []) [] within)) (
            λ h. elim (Contains-push_cases (row_at rows p) item x h) [ inl o ↦ inl o | inr s ↦ inr (refl, sym s) ],
            λ h. elim h [
              | inl o ↦ Contains-append_left (row_at rows p) (item ∷ []) x o
              | inr s ↦ subst (λ (z : T). Contains (row_at rows p ++ item ∷ []) z) (sym s.1) (Contains-push (row_at rows p) item)
            ],
          ))
      | inr n ↦ subst (λ (xs : List T). Contains xs x ↔ (Contains (row_at rows k) x ⊎ ((k ≡ p) × (x ≡ item))))
          (sym (get_or-set_other lists p k (row_at rows p ++ item ∷ []) [] n)) (λ h. inl h, λ h. elim h [ inl o ↦ o | inr s ↦ absurd (n s.0) ])
    ])
