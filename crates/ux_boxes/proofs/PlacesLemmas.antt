-- The places of boxes, one box after another.
use Rattle.std.proofs.Common.{arith, ◌⊎◌, inl, inr, ◌≡◌, ℕ, zero, suc, ◌<◌, ◌≤◌, List, [], ◌∷◌, ◌++◌, refl, sym, ◌∙◌, ap, subst, length, ◌+◌, take}
use Rattle.std.specs.Prelude.{Some, None, slice_get, get_or}
use Rattle.std.proofs.lemmas.Bool.{cases_lt}
use Rattle.std.proofs.lemmas.List.{get_or_push, length_push, length-take-le}
use Rattle.std.proofs.lemmas.Option.{get_or_from_slice_get, none-some, slice_get_past, slice_get_cases, slice_get_read, slice_get_within}
use Rattle.std.proofs.Math.ListN.{get_or-append}
use Rattle.ux_alphabet.specs.Letters.{Letters}
use Rattle.ux_grf.specs.declared.graph.GrfBox.{GrfBox}
use Rattle.ux_grf.specs.declared.item.Item.{Item}
use Rattle.ux_boxes.proofs.SplittingLemmas.{take-next}
use Rattle.ux_net.specs.declared.label.Label.{Label}
use Rattle.ux_boxes.specs.declared.place.Place.{Place}
use Rattle.ux_boxes.specs.Boxes.{box_lines_in, box_targets_in, box_reached_in, lines_at, output_in, output_at, targets_at}
use Rattle.ux_boxes.specs.Places.{lines_in, output_in_place, targets_in, reached_in, is_reached, label_lines, place_output, place_targets, ArePlaces}
use Rattle.ux_boxes.specs.Splitting.{AreSplitLines, start_line, IsPlaceOf}

-- at a place of a list with one more element stands one of the old elements, or the new one
abbrev Stands : {X : Type 0} → List X → X → ℕ → X → Type 0
Stands xs new k x = ((k < length xs) × (slice_get xs k ≡ Some x)) ⊎ ((k ≡ length xs) × (new ≡ x))

stands : {X : Type 0} (xs : List X) (new : X) (k : ℕ) (x : X) →
    slice_get (xs ++ new ∷ []) k ≡ Some x → Stands xs new k x
stands {X} xs new k x at = by (cases_lt k (length xs))
  where
    read : get_or (xs ++ new ∷ []) k x ≡ x
    read = get_or_from_slice_get (xs ++ new ∷ []) k x x at

    by : (k < length xs) ⊎ (length xs ≤ k) → Stands xs new k x
    by (inl before) =
        let old = sym read ∙ get_or-append xs (new ∷ []) x k before in
        inl (before, slice_get_read xs (length xs) k x refl before old)
    by (inr behind) =
        let within = slice_get_within (xs ++ new ∷ []) k x at in
        let last : k ≡ length xs = omega (arith, behind, within, length_push xs new) in
        inr (last, sym (get_or_push xs new x k (sym last)) ∙ read)

module _ (alphabet : Letters) (names : List (List ℕ)) where
  -- as many places as boxes, and each is that of its box
  pub record ArePlacesSoFar (boxes : List GrfBox) (places : List Place) : Type 0 where
    pub count : length places ≡ length boxes
    pub each : (k : ℕ) (grf_box : GrfBox) (place : Place) → slice_get boxes k ≡ Some grf_box →
        slice_get places k ≡ Some place → IsPlaceOf alphabet names k grf_box place

  -- no places are those of no boxes
  pub places_start : ArePlacesSoFar [] []
  places_start = record {
    count = refl;
    each = λ k grf_box place at_box at_place. absurd (none-some grf_box at_box);
  }

  -- the next box, and its place
  pub places_more : (boxes : List GrfBox) (places : List Place) (grf_box : GrfBox) (place : Place) →
      ArePlacesSoFar boxes places → IsPlaceOf alphabet names (length places) grf_box place →
      ArePlacesSoFar (boxes ++ grf_box ∷ []) (places ++ place ∷ [])
  places_more boxes places grf_box place so_far one = record {
    count =
        let count = so_far.count in
        omega (arith, length_push boxes grf_box, length_push places place);
    each = λ k b p at_b at_p.
        each k b p (stands boxes grf_box k b at_b) (stands places place k p at_p);
  }
    where
      each : (k : ℕ) (b : GrfBox) (p : Place) → Stands boxes grf_box k b → Stands places place k p →
          IsPlaceOf alphabet names k b p
      each k b p (inl old_b) (inl old_p) = so_far.each k b p old_b.1 old_p.1
      each k b p (inl old_b) (inr new_p) = absurd (omega (arith, so_far.count, old_b.0, new_p.0))
      each k b p (inr new_b) (inl old_p) = absurd (omega (arith, so_far.count, new_b.0, old_p.0))
      each k b p (inr new_b) (inr new_p) =
          subst (λ (n : ℕ). IsPlaceOf alphabet names n b p) (sym new_p.0)
          (subst (λ (x : GrfBox). IsPlaceOf alphabet names (length places) x p) new_b.1
          (subst (λ (x : Place). IsPlaceOf alphabet names (length places) grf_box x) new_p.1 one))

  -- the boxes up to a place, and the box there
  pub places_next : (boxes : List GrfBox) (places : List Place) (i : ℕ) (grf_box : GrfBox)
      (place : Place) → i < length boxes → grf_box ≡ get_or boxes i grf_box →
      ArePlacesSoFar (take i boxes) places → IsPlaceOf alphabet names i grf_box place →
      ArePlacesSoFar (take (i + 1) boxes) (places ++ place ∷ [])
  places_next boxes places i grf_box place within is so_far one =
      let count : i ≡ length places =
      sym (length-take-le i boxes (omega (arith, within))) ∙ sym so_far.count in
      subst (λ (l : List GrfBox). ArePlacesSoFar l (places ++ place ∷ []))
      (take-next boxes i grf_box within is)
      (places_more (take i boxes) places grf_box place so_far
      (subst (λ (n : ℕ). IsPlaceOf alphabet names n grf_box place) count one))

  -- a number has a box and its place, or neither
  data At (boxes : List GrfBox) (places : List Place) (n : ℕ) : Type 0 where
    both : (grf_box : GrfBox) (place : Place) → slice_get boxes n ≡ Some grf_box →
        slice_get places n ≡ Some place → IsPlaceOf alphabet names n grf_box place →
        At boxes places n
    neither : length boxes ≤ n → slice_get boxes n ≡ None → slice_get places n ≡ None →
        At boxes places n

  at_number : (boxes : List GrfBox) (places : List Place) (n : ℕ) → ArePlacesSoFar boxes places →
      At boxes places n
  at_number boxes places n all = elim (slice_get_cases boxes n).1 [
    | inl here ↦ elim (slice_get_cases places n).1 [
      | inl there ↦
          both here.0 there.0 here.2 there.2 (all.each n here.0 there.0 here.2 there.2)
      | inr past ↦ absurd (omega (arith, all.count, here.1, past.0))
    ]
    | inr past ↦
        neither past.0 past.1 (slice_get_past places n (omega (arith, all.count, past.0)))
  ]

  targets_same : (boxes : List GrfBox) (places : List Place) (n : ℕ) → At boxes places n →
      place_targets places n ≡ targets_at boxes n
  targets_same boxes places n (both grf_box place at_box at_place is) =
      ap targets_in at_place ∙ (is.targets ∙ sym (ap box_targets_in at_box))
  targets_same boxes places n (neither past no_box no_place) =
      ap targets_in no_place ∙ sym (ap box_targets_in no_box)

  reached_same : (boxes : List GrfBox) (places : List Place) (n : ℕ) → At boxes places n →
      is_reached places n ≡ box_reached_in (slice_get boxes n)
  reached_same boxes places n (both grf_box place at_box at_place is) =
      ap reached_in at_place ∙ (is.reached ∙ sym (ap box_reached_in at_box))
  reached_same boxes places n (neither past no_box no_place) =
      ap reached_in no_place ∙ sym (ap box_reached_in no_box)

  outputs_same : (boxes : List GrfBox) (places : List Place) (n : ℕ) → At boxes places n →
      place_output places n ≡ output_at boxes n
  outputs_same boxes places zero (both grf_box place at_box at_place is) =
      ap output_in_place at_place ∙ is.output
  outputs_same boxes places (suc zero) (both grf_box place at_box at_place is) =
      ap output_in_place at_place ∙ is.output
  outputs_same boxes places (suc (suc n)) (both grf_box place at_box at_place is) =
      ap output_in_place at_place ∙ (is.output ∙ sym (ap output_in at_box))
  outputs_same boxes places zero (neither past no_box no_place) = ap output_in_place no_place
  outputs_same boxes places (suc zero) (neither past no_box no_place) =
      ap output_in_place no_place
  outputs_same boxes places (suc (suc n)) (neither past no_box no_place) =
      ap output_in_place no_place ∙ sym (ap output_in no_box)

  -- lists that are the same as two that are split
  split_same : (lines lines' : List (List Item)) (split split' : List (List Label)) →
      lines' ≡ lines → split' ≡ split → AreSplitLines alphabet names lines split →
      AreSplitLines alphabet names lines' split'
  split_same lines lines' split split' e f all =
      subst (λ (l : List (List Item)). AreSplitLines alphabet names l split') (sym e)
      (subst (λ (s : List (List Label)). AreSplitLines alphabet names lines s) (sym f) all)

  lines_same : (boxes : List GrfBox) (places : List Place) (n : ℕ) → 0 < length boxes →
      At boxes places n → AreSplitLines alphabet names (lines_at boxes n) (label_lines places n)
  lines_same boxes places zero some (both grf_box place at_box at_place is) =
      split_same (start_line ∷ []) (start_line ∷ []) _ _ refl (ap lines_in at_place) is.lines
  lines_same boxes places (suc zero) some (both grf_box place at_box at_place is) =
      split_same [] [] _ _ refl (ap lines_in at_place) is.lines
  lines_same boxes places (suc (suc n)) some (both grf_box place at_box at_place is) =
      split_same _ _ _ _ (ap box_lines_in at_box) (ap lines_in at_place) is.lines
  lines_same boxes places zero some (neither past no_box no_place) =
      absurd (omega (arith, some, past))
  lines_same boxes places (suc zero) some (neither past no_box no_place) =
      split_same [] [] [] _ refl (ap lines_in no_place) tt
  lines_same boxes places (suc (suc n)) some (neither past no_box no_place) =
      split_same [] _ [] _ (ap box_lines_in no_box) (ap lines_in no_place) tt

  -- the places of all boxes
  pub places_whole : (boxes : List GrfBox) (places : List Place) → 0 < length boxes →
      ArePlacesSoFar boxes places → ArePlaces alphabet names boxes places
  places_whole boxes places some all = record {
    len = all.count;
    reached = λ n. reached_same boxes places n (at_number boxes places n all);
    targets = λ n. targets_same boxes places n (at_number boxes places n all);
    outputs = λ n. outputs_same boxes places n (at_number boxes places n all);
    lines = λ n. lines_same boxes places n some (at_number boxes places n all);
  }
