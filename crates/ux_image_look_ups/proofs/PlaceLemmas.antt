-- The states of a place: its first one and the others.
use Rattle.std.proofs.Common.{◌≡◌, ◌↔◌, ◌⊎◌, ℕ, List, [], ◌∷◌, ◌++◌, length, refl, sym, ◌∙◌, ap, subst, inl, inr, arith}
use Rattle.std.specs.Prelude.{◌==◌, Contains, MatchOption, Option, None, Some, true}
use Rattle.std.proofs.lemmas.List.Elements.{Contains-append_cases, Contains-append_left, Contains-append_right}
use Rattle.std.proofs.lemmas.Option.{none-some, same_Some}
use Rattle.std.proofs.lemmas.Bool.Decides.{Decides-eqb}
use Rattle.std.proofs.lemmas.List.{nil_from_length}
use Rattle.ux_dawg.specs.declared.state.State.{State}
use Rattle.ux_base.proofs.OrderedLists.{Contains-cons_cases, Contains-nil, Contains-tail}
use Rattle.ux_image_look_ups.specs.Places.{numbers_in}
use Rattle.ux_image_look_ups.specs.Steps.{EndsBy, GoesFrom, GoesTo, Puts, StepsTo}
use Rattle.ux_image_look_ups.specs.declared.steps.Taken.{Taken}

-- a member of a list with one more first
has_first : (x : ℕ) (xs : List ℕ) (s : ℕ) → Contains (x ∷ xs) s ↔ ((x ≡ s) ⊎ Contains xs s)
has_first x xs s = (
  λ has. Contains-cons_cases x s xs has,
  λ has. elim has [
    | inl same ↦ (0, omega arith, same)
    | inr later ↦ Contains-tail x s xs later
  ],
)

-- the first number is put where there is none
pub put-first : (now others : List ℕ) (state : ℕ) → others ≡ now → (s : ℕ) →
    Contains (state ∷ others) s ↔ (Contains now s ⊎ (s ≡ state))
put-first now others state same s = (
  λ has. elim ((has_first state others s).0 has) [
    | inl is ↦ inr (sym is)
    | inr later ↦ inl (subst (λ (l : List ℕ). Contains l s) same later)
  ],
  λ has. (has_first state others s).1 (elim has [
    | inl there ↦ inr (subst (λ (l : List ℕ). Contains l s) (sym same) there)
    | inr is ↦ inl (sym is)
  ]),
)

-- and else it is put last
put_last : (others new : List ℕ) (state : ℕ) → new ≡ others ++ state ∷ [] → (s : ℕ) →
    Contains new s ↔ (Contains others s ⊎ (s ≡ state))
put_last others new state pushed s = (
  λ has. elim (Contains-append_cases others (state ∷ []) s
      (subst (λ (l : List ℕ). Contains l s) pushed has)) [
        | inl before ↦ inl before
        | inr last ↦ elim ((has_first state [] s).0 last) [
          | inl is ↦ inr (sym is)
          | inr later ↦ absurd (Contains-nil s later)
        ]
      ],
  λ has. subst (λ (l : List ℕ). Contains l s) (sym pushed) (elim has [
    | inl before ↦ Contains-append_left others (state ∷ []) s before
    | inr is ↦ Contains-append_right others (state ∷ []) s (0, omega arith, sym is)
  ]),
)

pub put-other : (o : Option ℕ) (now others new : List ℕ) (state : ℕ) →
    numbers_in o others ≡ now → new ≡ others ++ state ∷ [] → (s : ℕ) →
    Contains (numbers_in o new) s ↔ (Contains now s ⊎ (s ≡ state))
put-other None now others new state same pushed s =
    subst (λ (l : List ℕ). Contains new s ↔ (Contains l s ⊎ (s ≡ state))) same
    (put_last others new state pushed s)
put-other (Some first) now others new state same pushed s =
    subst (λ (l : List ℕ). Contains (first ∷ new) s ↔ (Contains l s ⊎ (s ≡ state))) same (
      λ has. elim ((has_first first new s).0 has) [
        | inl is ↦ inl ((has_first first others s).1 (inl is))
        | inr later ↦ elim ((put_last others new state pushed s).0 later) [
          | inl before ↦ inl ((has_first first others s).1 (inr before))
          | inr is ↦ inr is
        ]
      ],
      λ has. (has_first first new s).1 (elim has [
        | inl there ↦ elim ((has_first first others s).0 there) [
          | inl is ↦ inl is
          | inr later ↦ inr ((put_last others new state pushed s).1 (inl later))
        ]
        | inr is ↦ inr ((put_last others new state pushed s).1 (inr is))
      ]),
    )

-- where the others have the same members, the place has them
pub same-others : (o : Option ℕ) (now others new : List ℕ) → numbers_in o others ≡ now →
    ((s : ℕ) → Contains new s ↔ Contains others s) → (s : ℕ) →
    Contains (numbers_in o new) s ↔ Contains now s
same-others None now others new same each s =
    subst (λ (l : List ℕ). Contains new s ↔ Contains l s) same (each s)
same-others (Some first) now others new same each s =
    subst (λ (l : List ℕ). Contains (first ∷ new) s ↔ Contains l s) same (
      λ has. (has_first first others s).1 (elim ((has_first first new s).0 has) [
        | inl is ↦ inl is
        | inr later ↦ inr ((each s).0 later)
      ]),
      λ has. (has_first first new s).1 (elim ((has_first first others s).0 has) [
        | inl is ↦ inl is
        | inr later ↦ inr ((each s).1 later)
      ]),
    )

-- the list of the first number alone, if there is one
abbrev IsSliceOf : Option ℕ → List ℕ → Type 0
IsSliceOf o slice = MatchOption o (slice ≡ []) (λ x. slice ≡ x ∷ [])

-- a member of the place is the first one or another
has_either : (o : Option ℕ) (slice others : List ℕ) → IsSliceOf o slice → (s : ℕ) →
    Contains (numbers_in o others) s ↔ (Contains slice s ⊎ Contains others s)
has_either None slice others is s = (
  λ has. inr has,
  λ has. elim has [
    | inl first ↦ absurd (Contains-nil s (subst (λ (l : List ℕ). Contains l s) is first))
    | inr other ↦ other
  ],
)
has_either (Some x) slice others is s = (
  λ has. elim ((has_first x others s).0 has) [
    | inl same ↦ inl (subst (λ (l : List ℕ). Contains l s) (sym is) (0, omega arith, same))
    | inr later ↦ inr later
  ],
  λ has. (has_first x others s).1 (elim has [
    | inl first ↦ elim ((has_first x [] s).0 (subst (λ (l : List ℕ). Contains l s) is first)) [
      | inl same ↦ inl same
      | inr later ↦ absurd (Contains-nil s later)
    ]
    | inr other ↦ inr other
  ]),
)

-- where no form ends in the first state, one ends where one ends in the others
pub ends-both : (states : List State) (o : Option ℕ) (slice others now : List ℕ)
    (result : Option ℕ) → IsSliceOf o slice → numbers_in o others ≡ now →
    EndsBy states slice None → EndsBy states others result → EndsBy states now result
ends-both states o slice others now None is same first other = λ s has.
    elim ((has_either o slice others is s).0 (subst (λ (l : List ℕ). Contains l s) (sym same) has)) [
      | inl there ↦ first s there
      | inr there ↦ other s there
    ]
ends-both states o slice others now (Some code) is same first (s, has, ends) = (
  s,
  subst (λ (l : List ℕ). Contains l s) same ((has_either o slice others is s).1 (inr has)),
  ends,
)

-- the states to which a character leads from the first state and from the others
pub goes-both : (states : List State) (taken : Taken) (o : Option ℕ)
    (slice others now start mid new next : List ℕ) → IsSliceOf o slice → numbers_in o others ≡ now →
    start ≡ [] → Puts states taken slice start mid → Puts states taken others mid new →
    ((s : ℕ) → Contains next s ↔ Contains new s) → (t : ℕ) →
    Contains next t ↔ GoesFrom states taken.alphabet.now taken.c now t
goes-both states taken o slice others now start mid new next is same none first other each t = (
  λ has. elim ((other t).0 ((each t).0 has)) [
    | inl there ↦ elim ((first t).0 there) [
      | inl nowhere ↦
          absurd (Contains-nil t (subst (λ (l : List ℕ). Contains l t) none nowhere))
      | inr (s, stands, goes) ↦ (s, here s (inl stands), goes)
    ]
    | inr (s, stands, goes) ↦ (s, here s (inr stands), goes)
  ],
  λ (s, has, goes). (each t).1 (elim ((has_either o slice others is s).0
      (subst (λ (l : List ℕ). Contains l s) (sym same) has)) [
        | inl stands ↦ (other t).1 (inl ((first t).1 (inr (s, stands, goes))))
        | inr stands ↦ (other t).1 (inr (s, stands, goes))
      ]),
)
  where
    here : (s : ℕ) → Contains slice s ⊎ Contains others s → Contains now s
    here s has = subst (λ (l : List ℕ). Contains l s) same ((has_either o slice others is s).1 has)

-- no other number, as a test of the length tells it
pub no-others : (xs : List ℕ) (n : ℕ) → n ≡ length xs → true ≡ (n == 0) → xs ≡ []
no-others xs n long is =
    let none : n ≡ 0 = (Decides-eqb n 0).0 (sym is) in
    nil_from_length xs (sym long ∙ none)

-- the one state to which a character leads from the first state, where there is no other
pub goes-one : (states : List State) (taken : Taken) (o r : Option ℕ) (others now none : List ℕ) →
    others ≡ [] → numbers_in o others ≡ now → none ≡ [] →
    ((t : ℕ) → (r ≡ Some t) ↔ StepsTo states taken o t) → (t : ℕ) →
    Contains (numbers_in r none) t ↔ GoesFrom states taken.alphabet.now taken.c now t
goes-one states taken o r others now none no_other same empty steps t =
    subst (λ (l : List ℕ). Contains (numbers_in r none) t
    ↔ GoesFrom states taken.alphabet.now taken.c l t)
    (ap (numbers_in o) (sym no_other) ∙ same)
    (subst (λ (l : List ℕ). Contains (numbers_in r l) t
    ↔ GoesFrom states taken.alphabet.now taken.c (numbers_in o []) t) (sym empty)
    (by o r steps))
  where
    by : (o r : Option ℕ) → ((k : ℕ) → (r ≡ Some k) ↔ StepsTo states taken o k) →
        Contains (numbers_in r []) t
        ↔ GoesFrom states taken.alphabet.now taken.c (numbers_in o []) t
    by None None each = (
      λ has. absurd (Contains-nil t has),
      λ (s, has, goes). absurd (Contains-nil s has),
    )
    by None (Some k) each = (
      λ has. absurd ((each k).0 refl),
      λ (s, has, goes). absurd (Contains-nil s has),
    )
    by (Some x) None each = (
      λ has. absurd (Contains-nil t has),
      λ (s, has, goes). elim ((has_first x [] s).0 has) [
        | inl is ↦ absurd (none-some t ((each t).1 (subst (λ k. GoesTo states taken.alphabet.now
            taken.c k t) (sym is) goes)))
        | inr later ↦ absurd (Contains-nil s later)
      ],
    )
    by (Some x) (Some k) each = (
      λ has. elim ((has_first k [] t).0 has) [
        | inl is ↦ (
          x,
          (0, omega arith, refl),
          (each t).0 (ap (λ n. Some n) is),
        )
        | inr later ↦ absurd (Contains-nil t later)
      ],
      λ (s, has, goes). elim ((has_first x [] s).0 has) [
        | inl is ↦ (has_first k [] t).1 (inl (same_Some k t
            ((each t).1 (subst (λ n. GoesTo states taken.alphabet.now taken.c n t) (sym is) goes))))
        | inr later ↦ absurd (Contains-nil s later)
      ],
    )
