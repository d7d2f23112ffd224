-- A test of each element of a list in turn.
use Rattle.std.proofs.Common.{arith, ◌≡◌, ℕ, ◌+◌, ◌<◌, ◌≤◌, List, refl, sym, subst, inl, inr, length, get_or, take, true, false, ◌↔◌}
use Rattle.std.specs.Prelude.{Contains, IsTrue}
use Rattle.std.proofs.lemmas.List.Elements.{Contains-get_or, Contains-push_cases}
use Rattle.ux_base.proofs.Lists.{take_more, take_whole, less_or}
use Rattle.ux_digraph.proofs.PathsLemmas.{edge_from}
use Rattle.ux_digraph.specs.Paths.{row_of, IsInside}
use Rattle.ux_digraph.specs.Checking.{AreBelow}

pub says_true : {P : Type 0} → P → IsTrue true ↔ P
says_true p = (λ e. p, λ q. refl)

pub says_false : {P : Type 0} → (P → ⊥) → IsTrue false ↔ P
says_false never = (λ e. let no_way : false ≡ true = e in cc, λ p. absurd (never p))

module _ {A : Type 0} (P : A → Type 0) (xs : List A) (i : ℕ) where
  pub passed_more : (d : A) → i < length xs → ((x : A) → Contains (take i xs) x → P x) →
      P (get_or xs i d) → (x : A) → Contains (take (i + 1) xs) x → P x
  passed_more d h before here x c = elim (Contains-push_cases (take i xs) (get_or xs i d) x
      (subst (λ (ys : List A). Contains ys x) (take_more xs i d h) c)) [
        | inl o ↦ before x o
        | inr e ↦ subst P e here
      ]

  pub passed_all : length xs ≤ i → ((x : A) → Contains (take i xs) x → P x) → (x : A) →
      Contains xs x → P x
  passed_all h before x c =
      before x (subst (λ (ys : List A). Contains ys x) (sym (take_whole xs i h)) c)

  -- an element that fails
  pub one_fails : (d : A) → i < length xs → (P (get_or xs i d) → ⊥) →
      ((x : A) → Contains xs x → P x) → ⊥
  one_fails d h fails all = fails (all (get_or xs i d) (Contains-get_or xs i d h))

module _ (edges : List (List ℕ)) (i : ℕ) (row : List ℕ) where
  pub rows_more : row ≡ row_of edges i → AreBelow row (length edges) →
      ((u : ℕ) → u < i → AreBelow (row_of edges u) (length edges)) → (u : ℕ) → u < i + 1 →
      AreBelow (row_of edges u) (length edges)
  rows_more is here before u h = elim (less_or u i) [
    | inl l ↦ before u l
    | inr l ↦
        let same : i ≡ u = omega arith in
        subst (λ n. AreBelow (row_of edges n) (length edges)) same
        (subst (λ (r : List ℕ). AreBelow r (length edges)) is here)
  ]

  pub row_fails : row ≡ row_of edges i → (AreBelow row (length edges) → ⊥) → IsInside edges → ⊥
  row_fails is fails inside = fails (subst (λ (r : List ℕ). AreBelow r (length edges)) (sym is)
      (λ v c. inside.inside i v c))

pub rows_all : (edges : List (List ℕ)) (i : ℕ) → length edges ≤ i →
    ((u : ℕ) → u < i → AreBelow (row_of edges u) (length edges)) → IsInside edges
rows_all edges i h before = record {
  inside = λ u v c. let l = edge_from edges u v c in before u (omega arith) v c;
}
