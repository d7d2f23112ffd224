-- Places that rise: where one comes before another, and that each stands at one position.
use Rattle.std.proofs.Common.{arith, ◌≡◌, ℕ, ◌<◌, ◌⊎◌, List, inl, inr, refl, sym, ◌∙◌, ap, subst}
use Rattle.std.specs.Ordering.{nat_cmp, ordering_then}
use Rattle.std.specs.declared.cmp.Ordering.{Ordering}
use Rattle.std.specs.declared.cmp.Ordering.TheVariants.{Less, Equal, Greater}
use Rattle.std.proofs.lemmas.Cmp.{ranked}
use Rattle.std.proofs.lemmas.Option.{same_Some}
use Rattle.ux_base.proofs.Lists.{less_or}
use Rattle.ux_tfst_locate.specs.declared.lattice.Place.{Place}
use Rattle.ux_tfst_locate.specs.Lattices.{AreRising, IsAt, place_cmp}

-- a pair is less by its first number, or by the rest
pub less_first : (x y : ℕ) (rest : Ordering) → ordering_then (nat_cmp x y) rest ≡ Less →
    (x < y) ⊎ ((x ≡ y) × (rest ≡ Less))
less_first x y rest h = by (nat_cmp x y) refl h
  where
    by : (o : Ordering) → nat_cmp x y ≡ o → ordering_then o rest ≡ Less →
        (x < y) ⊎ ((x ≡ y) × (rest ≡ Less))
    by Less e h = inl (ranked x y Less (sym e))
    by Equal e h = inr (ranked x y Equal (sym e), h)
    by Greater e h = absurd cc

less_last : (x y : ℕ) → nat_cmp x y ≡ Less → x < y
less_last x y h = ranked x y Less (sym h)

-- a place is less by its sentence, then by its state, then by the last state
pub less_place : (x y : Place) → place_cmp x y ≡ Less → (x.sentence < y.sentence)
    ⊎ ((x.sentence ≡ y.sentence) × ((x.state < y.state) ⊎ ((x.state ≡ y.state) × (x.last < y.last))))
less_place x y h = elim (less_first x.sentence y.sentence _ h) [
  | inl sentence ↦ inl sentence
  | inr rest ↦ inr (
    rest.0,
    elim (less_first x.state y.state _ rest.1) [
      | inl state ↦ inl state
      | inr last ↦ inr (last.0, less_last x.last y.last last.1)
    ],
  )
]

never_before_itself : (x : Place) → place_cmp x x ≡ Less → ⊥
never_before_itself x h = elim (less_place x x h) [
  | inl sentence ↦ omega (arith, sentence)
  | inr rest ↦ elim rest.1 [
    | inl state ↦ omega (arith, state)
    | inr last ↦ let less = last.1 in omega (arith, less)
  ]
]

module _ (places : List Place) (rising : AreRising places) where
  -- a place stands at one position
  pub at_once : (i j : ℕ) (place : Place) → IsAt places i place → IsAt places j place → i ≡ j
  at_once i j place here there = elim (less_or i j) [
    | inl less ↦ absurd (never_before_itself place (rising i j place place less here there))
    | inr past ↦ elim (less_or j i) [
      | inl more ↦ absurd (never_before_itself place (rising j i place place more there here))
      | inr no_more ↦ omega (arith, past, no_more)
    ]
  ]

  -- of two states of a sentence the lesser one stands earlier
  pub before_state : (i j : ℕ) (one other : Place) → IsAt places i one → IsAt places j other →
      one.sentence ≡ other.sentence → one.last ≡ other.last → one.state < other.state → i < j
  before_state i j one other here there sentence last less = elim (less_or i j) [
    | inl before ↦ before
    | inr past ↦ elim (less_or j i) [
      | inl more ↦ elim (less_place other one (rising j i other one more there here)) [
        | inl low ↦ absurd (omega (arith, low, sentence))
        | inr rest ↦ elim rest.1 [
          | inl low ↦ absurd (omega (arith, low, less))
          | inr same ↦ let e = same.0 in absurd (omega (arith, e, less))
        ]
      ]
      | inr no_more ↦
          let e : i ≡ j = omega (arith, past, no_more) in
          let same : one.state ≡ other.state = states i j one other e here there in
          absurd (omega (arith, same, less))
    ]
  ]
    where
      states : (i j : ℕ) (one other : Place) → i ≡ j → IsAt places i one → IsAt places j other →
          one.state ≡ other.state
      states i j one other e here there =
          ap (λ (p : Place). p.state) (same_Some one other (sym here
          ∙ subst (λ n. IsAt places n other) (sym e) there))

  -- and where it stands earlier, it is the lesser one
  pub state_before : (i j : ℕ) (one other : Place) → IsAt places i one → IsAt places j other →
      one.sentence ≡ other.sentence → one.last ≡ other.last → i < j → one.state < other.state
  state_before i j one other here there sentence last less =
      elim (less_place one other (rising i j one other less here there)) [
        | inl low ↦ absurd (omega (arith, low, sentence))
        | inr rest ↦ elim rest.1 [
          | inl low ↦ low
          | inr same ↦ let l = same.1 in absurd (omega (arith, l, last))
        ]
      ]
