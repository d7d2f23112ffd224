-- Links that become arcs between positions, one after another.
use Rattle.std.proofs.Common.{◌≡◌, ℕ, ◌↔◌, List, [], ◌∷◌, ◌++◌, Bool, true, false, ◌&&◌, ◌⊎◌, inl, inr, refl, sym, subst, get_or}
use Rattle.std.specs.Prelude.{◌==◌, All, Contains, flat_map}
use Rattle.std.specs.declared.cmp.Ordering.TheVariants.{Less}
use Rattle.std.specs.List.Sorted.{IsStrictlySortedBy}
use Rattle.std.proofs.lemmas.Bool.{eqb-true}
use Rattle.std.proofs.lemmas.List.{get_or_default}
use Rattle.std.proofs.lemmas.List.Elements.{Contains-push, Contains-push_cases, Contains-append_left}
use Rattle.std.proofs.lemmas.Map.Keys.{Less-from_sorted}
use Rattle.std.proofs.lemmas.Option.{get_or_from_slice_get, slice_get_within}
use Rattle.ux_base.proofs.JoinedLists.{contained_joined, contains_joined}
use Rattle.ux_base.proofs.Lists.{contains_first, contains_later, first_or_later, nothing_in}
use Rattle.ux_base.proofs.OrderedLists.{Contains-at}
use Rattle.ux_tfst_locate.specs.declared.lattice.Place.{Place}
use Rattle.ux_tfst_locate.specs.declared.lattice.SentenceLink.{SentenceLink}
use Rattle.ux_tfst_locate.specs.Lattices.{AreRising, HasEnds, IsAt, ends_of, from_of, place_cmp, to_of}

first : (s t : Bool) → (s && t) ≡ true → s ≡ true
first true t h = refl
first false t h = h

second : (s t : Bool) → (s && t) ≡ true → t ≡ true
second true t h = h
second false t h = cc

-- places that are equal by their parts are the same
pub same_place : (x y : Place) → (x.sentence == y.sentence && (x.state == y.state && x.last == y.last)) ≡ true →
    x ≡ y
same_place x y h =
    let a = x.sentence == y.sentence in
    let b = x.state == y.state in
    let d = x.last == y.last in
    let later = second a (b && d) h in
    let sentence = eqb-true x.sentence y.sentence (first a (b && d) h) in
    let state = eqb-true x.state y.state (first b d later) in
    let last = eqb-true x.last y.last (second b d later) in
    λ i. record { sentence = sentence i; state = state i; last = last i }

-- places in order rise
pub rising_from_sorted : (places : List Place) → IsStrictlySortedBy place_cmp places → AreRising places
rising_from_sorted places sorted i j one other less at then =
    let inside = slice_get_within places j other then in
    let d = one in
    let here = get_or_from_slice_get places i one d at in
    let there = get_or_from_slice_get places j other d then in
    subst (λ (x : Place). place_cmp x other ≡ Less) here
    (subst (λ (y : Place). place_cmp (get_or places i d) y ≡ Less) there
    (Less-from_sorted place_cmp places i j d sorted less inside))

module _ (links : List SentenceLink) (places : List Place)
    (same : (place : Place) → Contains places place ↔ Contains (flat_map ends_of links) place) where
  -- the states of each link have positions
  pub ends_there : All (HasEnds places) links
  ends_there k d less =
      let link = get_or links k d in
      let inside : Contains links link = (k, less, get_or_default links k link d less) in (
        (same (from_of link)).1 (contains_joined ends_of links link (from_of link) inside
            (contains_first (from_of link) (to_of link ∷ []))),
        (same (to_of link)).1 (contains_joined ends_of links link (to_of link) inside
            (contains_later (from_of link) (to_of link ∷ []) (to_of link)
            (contains_first (to_of link) []))),
      )

  -- and each position is that of a link's state
  pub owned : (i : ℕ) (place : Place) → IsAt places i place →
      (link : SentenceLink) × Contains links link × Contains (ends_of link) place
  owned i place at = contained_joined ends_of links place
      ((same place).0 (Contains-at places place i at))

-- a place is pushed
pub place_pushed : (old new : List Place) (place : Place) → new ≡ old ++ place ∷ [] →
    (other : Place) → Contains new other ↔ (Contains old other ⊎ (other ≡ place))
place_pushed old new place is other =
    subst (λ (l : List Place). Contains l other ↔ (Contains old other ⊎ (other ≡ place))) (sym is) (
      λ has. elim (Contains-push_cases old place other has) [
        | inl before ↦ inl before
        | inr same ↦ inr (sym same)
      ],
      λ either. elim either [
        | inl before ↦ Contains-append_left old (place ∷ []) other before
        | inr same ↦ subst (λ (p : Place). Contains (old ++ place ∷ []) p) (sym same)
            (Contains-push old place)
      ],
    )

-- of no links there is no state
pub ends_none : (places : List Place) → places ≡ [] → (place : Place) →
    Contains places place ↔ Contains (flat_map ends_of []) place
ends_none places none place = (
  λ has. absurd (nothing_in (subst (λ (l : List Place). Contains l place) none has)),
  λ has. absurd (nothing_in has),
)

module _ (front : List SentenceLink) (link : SentenceLink) (old mid new : List Place)
    (was : (place : Place) → Contains old place ↔ Contains (flat_map ends_of front) place)
    (from : (place : Place) → Contains mid place ↔ (Contains old place ⊎ (place ≡ from_of link)))
    (to : (place : Place) → Contains new place ↔ (Contains mid place ⊎ (place ≡ to_of link))) where
  abbrev pub all : List SentenceLink
  all = front ++ link ∷ []

  at_link : (place : Place) → Contains (ends_of link) place → Contains (flat_map ends_of all) place
  at_link place inside = contains_joined ends_of all link place (Contains-push front link) inside

  -- the states of one more link are added
  pub ends_more : (place : Place) → Contains new place ↔ Contains (flat_map ends_of all) place
  ends_more place = (
    λ has. elim ((to place).0 has) [
      | inl before ↦ elim ((from place).0 before) [
        | inl earlier ↦
            let of = contained_joined ends_of front place ((was place).0 earlier) in
            contains_joined ends_of all of.0 place
            (Contains-append_left front (link ∷ []) of.0 of.1) of.2
        | inr same ↦ at_link place (subst (Contains (ends_of link)) (sym same)
            (contains_first (from_of link) (to_of link ∷ [])))
      ]
      | inr same ↦ at_link place (subst (Contains (ends_of link)) (sym same)
          (contains_later (from_of link) (to_of link ∷ []) (to_of link)
          (contains_first (to_of link) [])))
    ],
    λ has.
        let of = contained_joined ends_of all place has in
        elim (Contains-push_cases front link of.0 of.1) [
          | inl earlier ↦ (to place).1 (inl ((from place).1 (inl ((was place).1
              (contains_joined ends_of front of.0 place earlier of.2)))))
          | inr same ↦
              let inside = subst (λ (l : SentenceLink). Contains (ends_of l) place) (sym same) of.2 in
              elim (first_or_later (from_of link) (to_of link ∷ []) place inside) [
                | inl first ↦ (to place).1 (inl ((from place).1 (inr (sym first))))
                | inr later ↦ elim (first_or_later (to_of link) [] place later) [
                  | inl second ↦ (to place).1 (inr (sym second))
                  | inr nothing ↦ absurd (nothing_in nothing)
                ]
              ]
        ],
  )
