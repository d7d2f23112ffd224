-- Rows to which pairs are put, one after another.
use Rattle.std.proofs.Common.{◌≡◌, ℕ, ◌<◌, List, [], ◌∷◌, ◌++◌, length, ap, subst, sym, ◌∙◌, inl, inr, ◌↔◌, set}
use Rattle.std.specs.Prelude.{Contains}
use Rattle.std.proofs.lemmas.List.{get_or-set_same, get_or-set_other}
use Rattle.std.proofs.lemmas.List.Elements.{Contains-append_left, Contains-push, Contains-push_cases}
use Rattle.ux_digraph.specs.Paths.{row_of}
use Rattle.ux_base.proofs.Lists.{same_or}

-- one more pair
pub rows_put : (rows after : List (List ℕ)) (pairs : List (ℕ × ℕ)) (p : ℕ × ℕ) →
    p.0 < length rows → after ≡ set rows p.0 (row_of rows p.0 ++ p.1 ∷ []) →
    ((u v : ℕ) → Contains (row_of rows u) v ↔ Contains pairs (u, v)) →
    (u v : ℕ) → Contains (row_of after u) v ↔ Contains (pairs ++ p ∷ []) (u, v)
rows_put rows after pairs p inside is old u v =
    subst (λ (rs : List (List ℕ)). Contains (row_of rs u) v ↔ Contains (pairs ++ p ∷ []) (u, v))
    (sym is) (elim (same_or u p.0) [
      | inl e ↦
          let row : row_of (set rows p.0 (row_of rows p.0 ++ p.1 ∷ [])) u ≡
          row_of rows p.0 ++ p.1 ∷ [] =
          ap (λ n. row_of (set rows p.0 (row_of rows p.0 ++ p.1 ∷ [])) n) e
          ∙ get_or-set_same rows p.0 (row_of rows p.0 ++ p.1 ∷ []) [] inside in (
            λ h. elim (Contains-push_cases (row_of rows p.0) p.1 v
                (subst (λ (row : List ℕ). Contains row v) row h)) [
                  | inl a ↦ Contains-append_left pairs (p ∷ []) (u, v)
                      ((old u v).0 (subst (λ n. Contains (row_of rows n) v) (sym e) a))
                  | inr s ↦ subst (λ (q : ℕ × ℕ). Contains (pairs ++ p ∷ []) q)
                      (ap (λ n. (p.0, n)) s ∙ ap (λ n. (n, v)) (sym e)) (Contains-push pairs p)
                ],
            λ h. subst (λ (row : List ℕ). Contains row v) (sym row)
                (elim (Contains-push_cases pairs p (u, v) h) [
                  | inl a ↦ Contains-append_left (row_of rows p.0) (p.1 ∷ []) v
                      (subst (λ n. Contains (row_of rows n) v) e ((old u v).1 a))
                  | inr s ↦ subst (λ n. Contains (row_of rows p.0 ++ p.1 ∷ []) n)
                      (ap (λ (q : ℕ × ℕ). q.1) s) (Contains-push (row_of rows p.0) p.1)
                ]),
          )
      | inr n ↦
          let row : row_of (set rows p.0 (row_of rows p.0 ++ p.1 ∷ [])) u ≡ row_of rows u =
          get_or-set_other rows p.0 u (row_of rows p.0 ++ p.1 ∷ []) [] n in (
            λ h. Contains-append_left pairs (p ∷ []) (u, v)
                ((old u v).0 (subst (λ (row : List ℕ). Contains row v) row h)),
            λ h. subst (λ (row : List ℕ). Contains row v) (sym row)
                (elim (Contains-push_cases pairs p (u, v) h) [
                  | inl a ↦ (old u v).1 a
                  | inr s ↦ absurd (n (sym (ap (λ (q : ℕ × ℕ). q.0) s)))
                ]),
          )
    ])
