-- The states of a sentence by their places.
use Rattle.std.proofs.Common.{arith, ◌≡◌, ℕ, ◌-◌, ◌<◌, ◌≤◌, ◌↔◌, List, [], ◌∷◌, inl, inr, sym, ◌∙◌, ap, subst, length}
use Rattle.std.specs.Prelude.{All, AllPairs, Contains, flat_map, map}
use Rattle.std.specs.Ordering.{nat_cmp}
use Rattle.std.specs.List.Sorted.{IsStrictlySortedBy}
use Rattle.std.proofs.lemmas.List.{get_or_default}
use Rattle.std.proofs.lemmas.List.Elements.{All-contains, Contains-get_or}
use Rattle.std.proofs.lemmas.List.Kept.{AllPairs-from_increasing}
use Rattle.std.proofs.lemmas.Map.Keys.{IsStrictlyIncreasing-from_sorted, below_from_sorted}
use Rattle.ux_base.proofs.Lists.{nothing_in, first_or_later, contains_first, contains_later, less_or}
use Rattle.ux_base.proofs.JoinedLists.{contained_joined, contains_joined, contains_mapped}
use Rattle.ux_subsets.specs.declared.automaton.Link as placed
use Rattle.ux_subsets.specs.declared.automaton.Automaton.{Automaton}
use Rattle.ux_subsets.specs.Paths.{IsAscending}
use Rattle.ux_reading_table.specs.declared.numbered.NumberedLink.{NumberedLink}
use Rattle.ux_reading_table.specs.declared.numbered.NumberedSentence.{NumberedSentence}
use Rattle.ux_elag.specs.Numbers.{HasEnds, IsFormed, IsPlaced, IsWithin, LeadsOn, ends_of, state_at, stated}
use Rattle.ux_elag.proofs.Leaving.{all-of}

module _ (sentence : NumberedSentence) (formed : IsFormed sentence) (some : 0 < sentence.states)
    (states : List ℕ) (rise : IsStrictlySortedBy nat_cmp states)
    (same_states : (state : ℕ) → Contains states state
    ↔ Contains (0 ∷ (sentence.states - 1) ∷ flat_map ends_of sentence.links.items) state) where
  two-states : (2 ≤ sentence.states) × All (LeadsOn sentence.states) sentence.links.items
  two-states = elim formed [
    | inl none ↦ absurd (omega (arith, none.0))
    | inr both ↦ both
  ]

  -- a state of a link is no greater than the last
  ends-within : (state : ℕ) → Contains states state → state ≤ sentence.states - 1
  ends-within state has =
      let links = sentence.links.items in
      elim (first_or_later 0 ((sentence.states - 1) ∷ flat_map ends_of links) state
      ((same_states state).0 has)) [
        | inl e ↦ omega (arith, e)
        | inr later ↦ elim (first_or_later (sentence.states - 1) (flat_map ends_of links) state
            later) [
              | inl e ↦ omega (arith, e)
              | inr end ↦
                  let found = contained_joined ends_of links state end in
                  let leads = All-contains (LeadsOn sentence.states) links found.0 two-states.1 found.1
                  in
                  elim (first_or_later found.0.from (found.0.to ∷ []) state found.2) [
                    | inl e ↦ omega (arith, e, leads.0, leads.1)
                    | inr to ↦ elim (first_or_later found.0.to [] state to) [
                      | inl e ↦ omega (arith, e, leads.1)
                      | inr never ↦ absurd (nothing_in never)
                    ]
                  ]
            ]
      ]

  pub ends-there : All (HasEnds states) sentence.links.items
  ends-there =
      let links = sentence.links.items in
      all-of (HasEnds states) links (λ link has. (
        (same_states link.from).1 (contains_later 0 ((sentence.states - 1) ∷ flat_map ends_of links)
            link.from (contains_later (sentence.states - 1) (flat_map ends_of links) link.from
            (contains_joined ends_of links link link.from has
            (contains_first link.from (link.to ∷ []))))),
        (same_states link.to).1 (contains_later 0 ((sentence.states - 1) ∷ flat_map ends_of links)
            link.to (contains_later (sentence.states - 1) (flat_map ends_of links) link.to
            (contains_joined ends_of links link link.to has
            (contains_later link.from (link.to ∷ []) link.to (contains_first link.to []))))),
      ))

  at_zero : (k : ℕ) × (k < length states) × (state_at states k ≡ 0)
  at_zero =
      let has = (same_states 0).1
      (contains_first 0 ((sentence.states - 1) ∷ flat_map ends_of sentence.links.items)) in
      (has.0, has.1, has.2)

  at_last : (k : ℕ) × (k < length states) × (state_at states k ≡ sentence.states - 1)
  at_last =
      let has = (same_states (sentence.states - 1)).1
      (contains_later 0 ((sentence.states - 1) ∷ flat_map ends_of sentence.links.items)
      (sentence.states - 1)
      (contains_first (sentence.states - 1) (flat_map ends_of sentence.links.items))) in
      (has.0, has.1, get_or_default states has.0 0 (sentence.states - 1) has.1 ∙ has.2)

  first-state : state_at states 0 ≡ 0
  first-state = elim (less_or 0 at_zero.0) [
    | inl later ↦
        let below = below_from_sorted states 0 at_zero.0 0 rise later at_zero.1 in
        absurd (omega (arith, below, at_zero.2))
    | inr here ↦
        let e : at_zero.0 ≡ 0 = omega arith in
        subst (λ (k : ℕ). state_at states k ≡ 0) e at_zero.2
  ]

  last-state : state_at states (length states - 1) ≡ sentence.states - 1
  last-state = elim (less_or at_last.0 (length states - 1)) [
    | inl earlier ↦
        let inside : length states - 1 < length states = omega (arith, earlier) in
        let below = below_from_sorted states at_last.0 (length states - 1) 0 rise earlier inside in
        let within = ends-within (state_at states (length states - 1))
        (Contains-get_or states (length states - 1) 0 inside) in
        absurd (omega (arith, below, within, at_last.2))
    | inr here ↦
        let inside = at_last.1 in
        let e : at_last.0 ≡ length states - 1 = omega (arith, here, inside) in
        subst (λ (k : ℕ). state_at states k ≡ sentence.states - 1) e at_last.2
  ]

  pub two-places : 2 ≤ length states
  two-places =
      let zero_in = at_zero.1 in
      let last_in = at_last.1 in
      let two = two-states.0 in
      elim (less_or at_zero.0 at_last.0) [
        | inl less ↦ omega (arith, less, last_in)
        | inr at_least ↦ elim (less_or at_last.0 at_zero.0) [
          | inl less ↦ omega (arith, less, zero_in)
          | inr at_most ↦
              let e : at_zero.0 ≡ at_last.0 = omega (arith, at_least, at_most) in
              let clash : 0 ≡ sentence.states - 1 = sym at_zero.2 ∙
              (ap (state_at states) e ∙ at_last.2) in
              absurd (omega (arith, clash, two))
        ]
      ]

  module _ (links : List placed.Link) (links_are : map (stated states) links ≡ sentence.links.items)
      (within : All (IsWithin (length states)) links) where
    -- places in the order of states lead up where the states do
    places-ascend : IsAscending (length states - 1) links
    places-ascend =
        let rises : AllPairs (λ x y. x < y) states =
        AllPairs-from_increasing states (IsStrictlyIncreasing-from_sorted states rise) in
        record {
          ascends = λ link has.
              let there = subst (λ (ls : List NumberedLink). Contains ls (stated states link))
              links_are
              (contains_mapped (stated states) links link has) in
              let up = (All-contains (LeadsOn sentence.states) sentence.links.items
              (stated states link)
              two-states.1 there).0 in
              let from_in = (All-contains (IsWithin (length states)) links link within has).from in
              elim (less_or link.from link.to) [
                | inl less ↦ less
                | inr past ↦ elim (less_or link.to link.from) [
                  | inl less ↦ let falls = rises link.to link.from 0 less from_in in
                      absurd (omega (arith, falls, up))
                  | inr same ↦
                      let e : link.from ≡ link.to = omega (arith, past, same) in
                      let level : state_at states link.from ≡ state_at states link.to =
                      ap (state_at states) e in
                      absurd (omega (arith, level, up))
                ]
              ];
          within = λ link has.
              let inside = (All-contains (IsWithin (length states)) links link within has).to in
              omega (arith, inside);
        }

    -- the sentence by places, of its parts
    pub placed-whole : (source : Automaton) → source.last ≡ length states - 1 →
        source.links.items ≡ links → IsPlaced sentence source
    placed-whole source last_is links_is =
        let two = two-places in
        record {
          states = states;
          rise = IsStrictlyIncreasing-from_sorted states rise;
          count = omega (arith, last_is, two);
          some = omega (arith, last_is, two);
          first = first-state;
          last = ap (state_at states) last_is ∙ last-state;
          links_are = sym links_are ∙ ap (map (stated states)) (sym links_is);
          within = subst (All (IsWithin (length states))) (sym links_is) within;
          ascending = subst (λ (n : ℕ). IsAscending n source.links.items) (sym last_is)
              (subst (IsAscending (length states - 1)) (sym links_is) places-ascend);
        }
