-- The numbers of texts that other characters may fit, and those that a literal fits, as they are
-- listed.
use Rattle.std.proofs.Common.{arith, ◌≡◌, ◌↔◌, ℕ, ◌+◌, ◌<◌, ◌≤◌, List, [], ◌∷◌, ◌++◌, ◌⊎◌, inl, inr, All, Bor, map, length, get_or, take, sym, ◌∙◌, ap, subst}
use Rattle.std.specs.Prelude.{Option, Some, Contains, slice_get}
use Rattle.std.specs.Str.{chars}
use Rattle.std.proofs.lemmas.List.{length-map, take_more, take_all}
use Rattle.std.proofs.Math.ListN.{get_or-map}
use Rattle.std.proofs.lemmas.List.Elements.{Contains-append_left, Contains-push, Contains-push_cases}
use Rattle.std.proofs.lemmas.Option.{same_Some, slice_get_within, get_or_from_slice_get}
use Rattle.ux_base.proofs.Lists.{less_or}
use Rattle.ux_alphabet.specs.Letters.{Letters}
use Rattle.ux_walk.specs.Literals.{AreRaised, IsPlainChar}

module _ (alphabet : Letters) (slices : List (Bor (List ℕ))) where
  -- of the texts before the place, those that others may fit are listed
  abbrev pub AreRaisedBefore : ℕ → List ℕ → Type 0
  AreRaisedBefore m raised = (n : ℕ) (text : List ℕ) → n < m →
      slice_get (map (λ (s : Bor (List ℕ)). s.now) slices) n ≡ Some text →
      Contains raised n ⊎ All (IsPlainChar alphabet) (chars text)

  -- the next one is listed
  pub raised_listed : (m : ℕ) (raised : List ℕ) → AreRaisedBefore m raised →
      AreRaisedBefore (m + 1) (raised ++ m ∷ [])
  raised_listed m raised before n text lt at = elim (less_or n m) [
    | inl h ↦ elim (before n text h at) [
      | inl there ↦ inl (Contains-append_left raised (m ∷ []) n there)
      | inr plain ↦ inr plain
    ]
    | inr h ↦
        let is : n ≡ m = omega (arith, h, lt) in
        inl (subst (Contains (raised ++ m ∷ [])) (sym is) (Contains-push raised m))
  ]

  -- no other fits the next one
  pub raised_plain : (m : ℕ) (raised : List ℕ) (d : Bor (List ℕ)) →
      All (IsPlainChar alphabet) (chars (get_or slices m d).now) → AreRaisedBefore m raised →
      AreRaisedBefore (m + 1) raised
  raised_plain m raised d plain before n text lt at = elim (less_or n m) [
    | inl h ↦ before n text h at
    | inr h ↦
        let texts = map (λ (s : Bor (List ℕ)). s.now) slices in
        let is : n ≡ m = omega (arith, h, lt) in
        let this : (get_or slices m d).now ≡ text =
        sym (get_or-map (λ (s : Bor (List ℕ)). s.now) slices m d)
        ∙ (ap (λ (k : ℕ). get_or texts k d.now) (sym is)
        ∙ get_or_from_slice_get texts n text d.now at) in
        inr (subst (λ (t : List ℕ). All (IsPlainChar alphabet) (chars t)) this plain)
  ]

  -- all are listed
  pub raised_all : (m : ℕ) (raised : List ℕ) → length slices ≤ m → AreRaisedBefore m raised →
      AreRaised alphabet (map (λ (s : Bor (List ℕ)). s.now) slices) raised
  raised_all m raised past before n text at =
      let within : n < length (map (λ (s : Bor (List ℕ)). s.now) slices) =
      slice_get_within (map (λ (s : Bor (List ℕ)). s.now) slices) n text at in
      let long : length (map (λ (s : Bor (List ℕ)). s.now) slices) ≡ length slices =
      length-map slices (λ (s : Bor (List ℕ)). s.now) in
      before n text (omega (arith, within, long, past)) at

-- one item more
contains_more : (xs : List ℕ) (y n : ℕ) → Contains (xs ++ y ∷ []) n ↔ (Contains xs n ⊎ (y ≡ n))
contains_more xs y n = (
  Contains-push_cases xs y n,
  λ either. elim either [
    | inl there ↦ Contains-append_left xs (y ∷ []) n there
    | inr is ↦ subst (Contains (xs ++ y ∷ [])) is (Contains-push xs y)
  ],
)

contains_none : (n : ℕ) → Contains {X = ℕ} [] n → ⊥
contains_none n there = omega (arith, there.1)

-- a number that was found is the only one that is listed first
pub first_found : (found : Option ℕ) (m : ℕ) (old new : List ℕ) → found ≡ Some m → old ≡ [] →
    new ≡ old ++ m ∷ [] → (n : ℕ) → Contains new n ↔ (found ≡ Some n)
first_found found m old new is none more n =
    let one : new ≡ m ∷ [] = more ∙ ap (λ (l : List ℕ). l ++ m ∷ []) none in (
      λ there. elim ((contains_more [] m n).0 (subst (λ (l : List ℕ). Contains l n) one there)) [
        | inl old ↦ absurd (contains_none n old)
        | inr same ↦ is ∙ ap (λ (k : ℕ). Some k) same
      ],
      λ other. subst (λ (l : List ℕ). Contains l n) (sym one)
          ((contains_more [] m n).1 (inr (same_Some m n (sym is ∙ other)))),
    )

-- where none was found, none is listed first
pub first_none : (found : Option ℕ) (items : List ℕ) → ((m : ℕ) → found ≡ Some m → ⊥) →
    items ≡ [] → (n : ℕ) → Contains items n ↔ (found ≡ Some n)
first_none found items other none n = (
  λ there. absurd (contains_none n (subst (λ (l : List ℕ). Contains l n) none there)),
  λ is. absurd (other n is),
)

module _ (Fitted : ℕ → Type 0) (first items : List ℕ) where
  -- the numbers are the first ones, and those of the items before the place that are fitted
  abbrev pub AreListed : ℕ → List ℕ → Type 0
  AreListed i numbers = (n : ℕ) → Contains numbers n
      ↔ (Contains first n ⊎ (Contains (take i items) n × Fitted n))

  pub listed_none : AreListed 0 first
  listed_none n = (
    λ there. inl there,
    λ either. elim either [
      | inl there ↦ there
      | inr more ↦ absurd (contains_none n more.0)
    ],
  )

  module _ (i : ℕ) (numbers : List ℕ) (within : i < length items)
      (before : AreListed i numbers) where
    -- what is among one item more
    among_more : (n : ℕ) → Contains (take (i + 1) items) n
        ↔ (Contains (take i items) n ⊎ (get_or items i 0 ≡ n))
    among_more n =
        subst (λ (l : List ℕ). Contains l n ↔ (Contains (take i items) n ⊎ (get_or items i 0 ≡ n)))
        (sym (take_more items i 0 within)) (contains_more (take i items) (get_or items i 0) n)

    -- what was listed stays so
    still : (n : ℕ) → Contains numbers n →
        Contains first n ⊎ (Contains (take (i + 1) items) n × Fitted n)
    still n there = elim ((before n).0 there) [
      | inl one ↦ inl one
      | inr more ↦ inr ((among_more n).1 (inl more.0), more.1)
    ]

    -- the next item is fitted
    pub listed_more : Fitted (get_or items i 0) →
        AreListed (i + 1) (numbers ++ get_or items i 0 ∷ [])
    listed_more fitted n = (
      λ there. elim ((contains_more numbers (get_or items i 0) n).0 there) [
        | inl old ↦ still n old
        | inr is ↦ inr ((among_more n).1 (inr is), subst Fitted is fitted)
      ],
      λ either. (contains_more numbers (get_or items i 0) n).1 (elim either [
        | inl one ↦ inl ((before n).1 (inl one))
        | inr more ↦ elim ((among_more n).0 more.0) [
          | inl old ↦ inl ((before n).1 (inr (old, more.1)))
          | inr is ↦ inr is
        ]
      ]),
    )

    -- the next item is not
    pub listed_not : (Fitted (get_or items i 0) → ⊥) → AreListed (i + 1) numbers
    listed_not not n = (
      still n,
      λ either. elim either [
        | inl one ↦ (before n).1 (inl one)
        | inr more ↦ elim ((among_more n).0 more.0) [
          | inl old ↦ (before n).1 (inr (old, more.1))
          | inr is ↦ absurd (not (subst Fitted (sym is) more.1))
        ]
      ],
    )

  -- at the end
  pub listed_all : (i : ℕ) (numbers : List ℕ) → length items ≤ i → AreListed i numbers →
      (n : ℕ) → Contains numbers n ↔ (Contains first n ⊎ (Contains items n × Fitted n))
  listed_all i numbers past before n =
      subst (λ (l : List ℕ). Contains numbers n ↔ (Contains first n ⊎ (Contains l n × Fitted n)))
      (take_all i items past) (before n)
