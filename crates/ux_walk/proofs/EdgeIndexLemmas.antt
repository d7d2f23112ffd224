-- An index of a state's edges tells enough places: how it is made, and how it is looked up.
use Rattle.std.proofs.Common.{arith, ◌≡◌, ℕ, ◌+◌, ◌-◌, ◌<◌, ◌≤◌, List, [], ◌∷◌, ◌++◌, ◌⊎◌, inl, inr, sym, ◌∙◌, ap, subst, true, false, ltb, leb, length, take, drop, get_or, map}
use Rattle.std.specs.Prelude.{Some, slice_get, Contains}
use Rattle.std.specs.List.Sorted.{IsNonDecreasingBy, IsPartitionPoint, IsPermutation}
use Rattle.std.proofs.lemmas.Bool.{ltb-true, leb-false}
use Rattle.std.proofs.lemmas.List.{get_or-take, get_or-drop, length-drop, length-take-le, length-map}
use Rattle.std.proofs.lemmas.List.Elements.{Contains-append_left, Contains-append_right, Contains-push}
use Rattle.std.proofs.lemmas.List.Sorted.{Contains-permutation}
use Rattle.std.proofs.lemmas.Option.{same_Some, slice_get_within}
use Rattle.std.proofs.Math.ListN.{get_or-map}
use Rattle.ux_alphabet.specs.Letters.{Letters}
use Rattle.ux_net.specs.declared.label.Label.{Label}
use Rattle.ux_net.specs.declared.label.Label.TheVariants.{CaseFolded, CaseExact}
use Rattle.ux_net.specs.declared.state.Edge.{Edge}
use Rattle.ux_base.proofs.Lists.{less_or, nothing_in, first_or_later, contains_first, contains_later}
use Rattle.ux_walk.specs.declared.edge_index.Fitting.{Fitting}
use Rattle.ux_walk.specs.declared.edge_index.EdgeIndex.{EdgeIndex}
use Rattle.ux_walk.specs.EdgeIndexes.{IsIndexOf, fits_at, number_of, place_of}
use Rattle.ux_walk.specs.Literals.{FitsText, IsFitted, IsLiteral}
use Rattle.ux_walk.specs.LookUps.{AreEnough}
use Rattle.ux_walk.specs.Noting.{Includes}

-- this place, or one before it
this_or_before : (m n : ℕ) → n < m + 1 → (n ≡ m) ⊎ (n < m)
this_or_before m n lt = elim (less_or n m) [
  | inl h ↦ inr h
  | inr h ↦ inl (omega (arith, h, lt))
]

-- only literals fit texts
literal_or_not : (label : Label) → IsLiteral label ⊎ (IsLiteral label → ⊥)
literal_or_not (CaseFolded entry) = inl tt
literal_or_not (CaseExact exact) = inl tt
literal_or_not other = inr (λ no. no)

fits_literal : (alphabet : Letters) (label : Label) (text : List ℕ) → FitsText alphabet label text →
    IsLiteral label
fits_literal alphabet (CaseFolded entry) text fits = tt
fits_literal alphabet (CaseExact exact) text fits = tt
fits_literal alphabet other text fits = absurd fits

module _ (alphabet : Letters) (texts : List (List ℕ)) (edges : List Edge) where
  -- each edge before the place stands in the lists
  pub record AreIndexedBefore (m : ℕ) (fittings : List Fitting) (others : List ℕ) : Type 0 where
    pub literals : (place number : ℕ) (edge : Edge) → place < m →
        slice_get edges place ≡ Some edge →
        IsFitted alphabet texts edge.label number → Contains fittings (fits_at number place)
    pub others_are : (place : ℕ) (edge : Edge) → place < m → slice_get edges place ≡ Some edge →
        (IsLiteral edge.label → ⊥) → Contains others place

  pub indexed_none : (fittings : List Fitting) (others : List ℕ) →
      AreIndexedBefore 0 fittings others
  indexed_none fittings others = record {
    literals = λ place number edge lt. absurd (omega (arith, lt));
    others_are = λ place edge lt. absurd (omega (arith, lt));
  }

  module _ (m : ℕ) (edge : Edge) (here : slice_get edges m ≡ Some edge) where
    it_is : (place : ℕ) (other : Edge) → place ≡ m → slice_get edges place ≡ Some other →
        other ≡ edge
    it_is place other is at = same_Some other edge (sym at ∙ (ap (slice_get edges) is ∙ here))

    -- a literal stands with the tokens that it fits
    pub indexed_literal : (fittings more : List Fitting) (others : List ℕ) → IsLiteral edge.label →
        Includes (λ fitting. (number : ℕ) × IsFitted alphabet texts edge.label number
        × (fitting ≡ fits_at number m)) fittings more →
        AreIndexedBefore m fittings others → AreIndexedBefore (m + 1) more others
    indexed_literal fittings more others literal includes before = record {
      literals = λ place number other lt at fits. elim (this_or_before m place lt) [
        | inl is ↦ includes.has (fits_at number place) (
          number,
          subst (λ (e : Edge). IsFitted alphabet texts e.label number)
              (it_is place other is at) fits,
          ap (λ (p : ℕ). fits_at number p) is,
        )
        | inr earlier ↦ includes.kept (fits_at number place)
            (before.literals place number other earlier at fits)
      ];
      others_are = λ place other lt at never. elim (this_or_before m place lt) [
        | inl is ↦ absurd (never (subst (λ (e : Edge). IsLiteral e.label)
            (sym (it_is place other is at)) literal))
        | inr earlier ↦ before.others_are place other earlier at never
      ];
    }

    -- another edge stands apart
    pub indexed_other : (fittings : List Fitting) (others : List ℕ) → (IsLiteral edge.label → ⊥) →
        AreIndexedBefore m fittings others → AreIndexedBefore (m + 1) fittings (others ++ m ∷ [])
    indexed_other fittings others never before = record {
      literals = λ place number other lt at fits. elim (this_or_before m place lt) [
        | inl is ↦ absurd (never (fits_literal alphabet edge.label fits.0
            (subst (λ (e : Edge). FitsText alphabet e.label fits.0)
            (it_is place other is at) fits.2)))
        | inr earlier ↦ before.literals place number other earlier at fits
      ];
      others_are = λ place other lt at apart. elim (this_or_before m place lt) [
        | inl is ↦ subst (Contains (others ++ m ∷ [])) (sym is) (Contains-push others m)
        | inr earlier ↦ Contains-append_left others (m ∷ []) place
            (before.others_are place other earlier at apart)
      ];
    }

  -- all stand in the index
  pub indexed_all : (m : ℕ) (fittings : List Fitting) (index : EdgeIndex) → length edges ≤ m →
      AreIndexedBefore m fittings index.others.items →
      IsPermutation fittings index.fittings.items →
      IsNonDecreasingBy number_of index.fittings.items → IsIndexOf alphabet texts edges index
  indexed_all m fittings index past before moved ordered = record {
    ordered = ordered;
    literals = λ place number edge at fits.
        let within = slice_get_within edges place edge at in
        Contains-permutation fittings index.fittings.items (fits_at number place) moved
        (before.literals place number edge (omega (arith, within, past)) at fits);
    others = λ place edge at never.
        let within = slice_get_within edges place edge at in
        before.others_are place edge (omega (arith, within, past)) at never;
  }

-- in a list that is in order, those of a number stand between two places
pub run_has : (fittings : List Fitting) (start count number : ℕ) (fitting : Fitting) →
    number_of fitting ≡ number →
    IsPartitionPoint (λ f. ltb (number_of f) number ≡ true) (λ f. ltb (number_of f) number ≡ false)
    fittings start →
    IsPartitionPoint (λ f. leb (number_of f) number ≡ true) (λ f. leb (number_of f) number ≡ false)
    (drop start fittings) count → count ≤ length (drop start fittings) → Contains fittings fitting →
    Contains (take count (drop start fittings)) fitting
run_has fittings start count number fitting is first second inside (k, lt, at) =
    elim (less_or k start) [
      | inl before ↦
          let less = ltb-true (number_of (get_or fittings k fitting)) number
          (first.0 k fitting (omega arith) before) in
          let same : number_of (get_or fittings k fitting) ≡ number = ap number_of at ∙ is in
          absurd (omega (arith, less, same))
      | inr behind ↦ elim (less_or (k - start) count) [
        | inl within ↦ (
          k - start,
          (let long = length-take-le count (drop start fittings) inside in omega
              (arith, within, long)),
          get_or-take count (drop start fittings) (k - start) fitting within ∙ there behind,
        )
        | inr past ↦
            let long = length-drop start fittings in
            let more = leb-false (number_of (get_or (drop start fittings) (k - start) fitting))
            number
            (second.1 (k - start) fitting past (omega (arith, long, lt, behind))) in
            let same : number_of (get_or (drop start fittings) (k - start) fitting) ≡ number =
            ap number_of (there behind) ∙ is in
            absurd (omega (arith, more, same))
      ]
    ]
  where
    there : start ≤ k → get_or (drop start fittings) (k - start) fitting ≡ fitting
    there behind =
        let sum : start + (k - start) ≡ k = omega (arith, behind) in
        get_or-drop start fittings (k - start) fitting
        ∙ (ap (λ (n : ℕ). get_or fittings n fitting) sum ∙ at)

-- a number stands in a list or not
same_or_not : (a b : ℕ) → (a ≡ b) ⊎ (a ≡ b → ⊥)
same_or_not a b = elim (less_or a b) [
  | inl less ↦ inr (λ is. omega (arith, is, less))
  | inr most ↦ elim (less_or b a) [
    | inl less ↦ inr (λ is. omega (arith, is, less))
    | inr least ↦ inl (omega (arith, most, least))
  ]
]

has_or_not : (numbers : List ℕ) (n : ℕ) → Contains numbers n ⊎ (Contains numbers n → ⊥)
has_or_not [] n = inr (λ inside. nothing_in inside)
has_or_not (number ∷ numbers) n = elim (has_or_not numbers n) [
  | inl later ↦ inl (contains_later number numbers n later)
  | inr absent ↦ elim (same_or_not number n) [
    | inl is ↦ inl (subst (Contains (number ∷ numbers)) is (contains_first number numbers))
    | inr differs ↦ inr (λ inside. elim (first_or_later number numbers n inside) [
      | inl is ↦ differs is
      | inr later ↦ absent later
    ])
  ]
]

-- the places of the edges that fit a token, and of those that are no literals, are enough
pub index_enough : (alphabet : Letters) (texts : List (List ℕ)) (edges : List Edge)
    (index : EdgeIndex) → IsIndexOf alphabet texts edges index → (number : ℕ) (text : List ℕ) →
    slice_get texts number ≡ Some text → (fitting : List Fitting) →
    ((place : ℕ) → Contains index.fittings.items (fits_at number place) →
    Contains fitting (fits_at number place)) →
    AreEnough alphabet text edges (map place_of fitting ++ index.others.items)
index_enough alphabet texts edges index is number text numbered fitting run place edge at =
    elim (literal_or_not edge.label) [
      | inr never ↦ inl (Contains-append_right (map place_of fitting) index.others.items place
          (is.others place edge at never))
      | inl literal ↦ elim (has_or_not (map place_of fitting) place) [
        | inl there ↦ inl (Contains-append_left (map place_of fitting) index.others.items
            place there)
        | inr absent ↦ inr (
          literal,
          λ fits. absent (placed (run place
              (is.literals place number edge at (text, numbered, fits)))),
        )
      ]
    ]
  where
    placed : Contains fitting (fits_at number place) → Contains (map place_of fitting) place
    placed (k, lt, there) = (
      k,
      (let long = length-map fitting place_of in omega (arith, long, lt)),
      get_or-map place_of fitting k (fits_at number place) ∙ ap place_of there,
    )
