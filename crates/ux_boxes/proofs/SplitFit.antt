-- What holds of the places of each well formed graph holds of all that are split.
use Rattle.std.proofs.Common.{arith, ◌≡◌, ℕ, suc, ◌<◌, ◌≤◌, List, ◌∙◌, ap, subst, length, get_or, None, Some, ◌⊎◌, inl, inr}
use Rattle.std.specs.Prelude.{All, slice_get}
use Rattle.std.specs.Option.{option_map}
use Rattle.std.proofs.lemmas.List.{length-map}
use Rattle.std.proofs.lemmas.Option.{slice_get_cases, slice_get-map}
use Rattle.ux_alphabet.specs.Letters.{Letters}
use Rattle.ux_grf.specs.declared.graph.GrfBox.{GrfBox}
use Rattle.ux_grf.specs.WellFormed.{IsWellFormed}
use Rattle.ux_boxes.specs.declared.place.Place.{Place}
use Rattle.ux_boxes.specs.Boxes.{boxes_in, names_of}
use Rattle.ux_boxes.specs.Splitting.{AreSplit}
use Rattle.ux_boxes.specs.Fit.{HasTargetsInside}
use Rattle.ux_boxes.specs.Places.{ArePlaces, places_of}
use Rattle.ux_boxes.specs.Refusing.{drawn_of, drawn}
use Rattle.ux_boxes.proofs.NumbersLemmas.{places_at}
use Rattle.ux_boxes.proofs.RefusingLemmas.{Given}
use Rattle.ux_boxes.proofs.WellFormedFit.{inside}

module _ (alphabet : Letters) (graphs : List Given) (places : List (List Place))
    (formed : All (λ (graph : Given). IsWellFormed graph.1) graphs)
    (are : AreSplit alphabet (drawn graphs) places) where
  module _ (P : List Place → Type 0)
      (holds : (graph : Given) (ps : List Place) → IsWellFormed graph.1 →
      ArePlaces alphabet (names_of (drawn graphs)) graph.1.boxes ps → P ps) where
    split_at : (n : ℕ) → n < length places → P (places_of places (suc n))
    split_at n below =
        let count = are.count in
        let len = length-map graphs drawn_of in
        by (omega (arith, below, count, len)) (slice_get_cases graphs n).1
      where
        by : n < length graphs → ((x : Given) × (n < length graphs)
            × (slice_get graphs n ≡ Some x) × (get_or graphs n x ≡ x))
            ⊎ ((length graphs ≤ n) × (slice_get graphs n ≡ None)) → P (places_of places (suc n))
        by there (inr past) = let p = past.0 in absurd (omega (arith, p, there))
        by there (inl h) =
            let found : slice_get (drawn graphs) n ≡ Some (drawn_of h.0) =
            slice_get-map drawn_of graphs n ∙ ap (option_map drawn_of) h.2 in
            holds h.0 (places_of places (suc n))
            (subst (λ (g : Given). IsWellFormed g.1) h.3 (formed n h.0 there))
            (subst (λ (boxes : List GrfBox).
            ArePlaces alphabet (names_of (drawn graphs)) boxes (places_of places (suc n)))
            (ap boxes_in found)
            (are.each n (let c = are.count in omega (arith, below, c))))

    all_split : All P places
    all_split n d below = subst P (places_at places n d below) (split_at n below)

  -- targets are places
  pub split_inside : All HasTargetsInside places
  split_inside = all_split HasTargetsInside (λ graph ps wf of_boxes.
      inside alphabet (names_of (drawn graphs)) graph.1 ps wf of_boxes)

  -- no graph has more places than a file has boxes
  pub split_few : All (λ (ps : List Place). length ps ≤ 65535) places
  split_few = all_split (λ (ps : List Place). length ps ≤ 65535) (λ graph ps wf of_boxes.
      let most = wf.most in
      let len = of_boxes.len in
      omega (arith, most, len))

  pub split_count : length places ≡ length graphs
  split_count = are.count ∙ length-map graphs drawn_of
