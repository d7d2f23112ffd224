-- Tables, which have one row for each place.
use Rattle.std.proofs.Common.{arith, below_more, ◌≡◌, ℕ, zero, suc, ◌<◌, List, [], ◌∷◌, ◌++◌, length, get_or, refl, sym, ◌∙◌, ap, subst}
use Rattle.std.specs.Prelude.{Option, Some, IsSomeAnd, slice_get}
use Rattle.std.proofs.lemmas.List.{length_push, get_or_push, get_or_append_left}
use Rattle.std.proofs.lemmas.Option.{same_Some, slice_get_within, slice_get-get_or}
use Rattle.ux_lexical_tables.specs.Kept.{table_of}

module _ {X : Type 0} (at : ℕ → X) where
  -- a table has a row for each place
  pub length-table : (end : ℕ) → length (table_of at end) ≡ end
  length-table zero = refl
  length-table (suc end) =
      length_push (table_of at end) (at end) ∙ omega (arith, length-table end)

  get_or-table : (end place : ℕ) (d : X) → place < end → get_or (table_of at end) place d ≡ at place
  get_or-table zero place d lt = absurd (omega arith)
  get_or-table (suc end) place d lt =
      let long = length-table end in
      below_more (λ k. get_or (table_of at end ++ at end ∷ []) k d ≡ at k) end
      (λ k below.
      get_or_append_left (table_of at end) (at end ∷ []) d k (omega (arith, long, below))
      ∙ get_or-table end k d below)
      (get_or_push (table_of at end) (at end) d end long) place (omega (arith, lt))

  -- which is what there is at the place
  pub table-at : (end place : ℕ) → place < end → slice_get (table_of at end) place ≡ Some (at place)
  table-at end place lt =
      let long = length-table end in
      slice_get-get_or (table_of at end) place (at place) (omega (arith, long, lt))
      ∙ ap (λ (x : X). Some x) (get_or-table end place (at place) lt)

  pub table-row : (end place : ℕ) (row : X) → slice_get (table_of at end) place ≡ Some row →
      (place < end) × (row ≡ at place)
  table-row end place row is =
      let long = length-table end in
      let within = slice_get_within (table_of at end) place row is in
      let below : place < end = omega (arith, long, within) in
      (below, same_Some row (at place) (sym is ∙ table-at end place below))

  pub table-some : (end place : ℕ) (row : X) → place < end → row ≡ at place →
      IsSomeAnd (slice_get (table_of at end) place) (λ given. row ≡ given)
  table-some end place row lt is =
      subst (λ (o : Option X). IsSomeAnd o (λ given. row ≡ given)) (sym (table-at end place lt)) is

-- what stands at a place
pub some-at : {A : Type 0} (xs : List A) (i : ℕ) → i < length xs → (x : A) × (slice_get xs i ≡ Some x)
some-at [] i lt = absurd (omega (arith, lt))
some-at (x ∷ xs) zero lt = (x, refl)
some-at (x ∷ xs) (suc i) lt = some-at xs i (omega (arith, lt))
