-- The first box of which something is so, as the graphs are looked at one after another.
use Rattle.std.proofs.Common.{arith, ◌≡◌, ℕ, zero, suc, ◌+◌, ◌<◌, ◌≤◌, List, [], ◌∷◌, ◌++◌, refl, sym, ◌∙◌, ap, subst, length, get_or, take, None, Some, String, Global, ◌⊎◌, inl, inr}
use Rattle.std.specs.Prelude.{All, slice_get, string_bytes}
use Rattle.std.specs.Option.{option_map}
use Rattle.std.proofs.lemmas.List.{length-map, take_more, take_all, map-append, length-take-le, take-map, get_or-take}
use Rattle.std.proofs.lemmas.List.Elements.{All-nil, All-cons, All-append}
use Rattle.std.proofs.lemmas.Option.{slice_get_cases, slice_get-map, slice_get_read}
use Rattle.ux_grf.specs.declared.graph.Graph.{Graph}
use Rattle.ux_grf.specs.declared.graph.GrfBox.{GrfBox}
use Rattle.ux_boxes.specs.declared.bad_masks.BadText.{BadText}
use Rattle.ux_boxes.specs.Refusing.{IsFirst, drawn_of, drawn, AreMasked, is_named, IsFirstBadMask}
use Rattle.ux_boxes.specs.BadMasks.{IsFirstBadBox}
use Rattle.ux_boxes.specs.Boxes.{Drawn, boxes_in, boxes_of}
use Rattle.ux_boxes.specs.MaskTexts.{mask_texts_in, HaveMasks, IsFirstBad}
use Rattle.ux_boxes.proofs.MaskTextsLemmas.{HasBadText, none_bad, no_box_bad, bad_here, bad_least}

-- a graph given with its name
abbrev pub Given : Type 0
Given = String Global × Graph

-- one graph more is looked at
pub good_more : (IsGood : List GrfBox → Type 0) (graphs : List Given) (i : ℕ) (graph : Given) →
    i < length graphs → graph ≡ get_or graphs i graph →
    All (λ (d : Drawn). IsGood d.boxes) (drawn (take i graphs)) → IsGood graph.1.boxes →
    All (λ (d : Drawn). IsGood d.boxes) (drawn (take (i + 1) graphs))
good_more IsGood graphs i graph within is before here =
    let P : Drawn → Type 0 = λ (d : Drawn). IsGood d.boxes in
    let same : take (i + 1) graphs ≡ take i graphs ++ graph ∷ [] =
    take_more graphs i graph within ∙ ap (λ (x : Given). take i graphs ++ x ∷ []) (sym is) in
    subst (All P) (sym (ap drawn same ∙ map-append drawn_of (take i graphs) (graph ∷ [])))
    (All-append P (drawn (take i graphs)) (drawn_of graph ∷ []) before
    (All-cons P (drawn_of graph) [] here (All-nil P)))

-- at the end all are
pub good_all : (IsGood : List GrfBox → Type 0) (graphs : List Given) (i : ℕ) → length graphs ≤ i →
    All (λ (d : Drawn). IsGood d.boxes) (drawn (take i graphs)) →
    All (λ (d : Drawn). IsGood d.boxes) (drawn graphs)
good_all IsGood graphs i past all =
    subst (λ (l : List Given). All (λ (d : Drawn). IsGood d.boxes) (drawn l))
    (take_all i graphs past) all

-- a graph that is given has its name
pub named_here : (graphs : List Given) (i : ℕ) (graph : Given) → i < length graphs →
    graph ≡ get_or graphs i graph → is_named (drawn graphs) (suc i) (string_bytes graph.0)
named_here graphs i graph within is =
    slice_get-map (λ (d : Drawn). d.name) (drawn graphs) i
    ∙ ap (option_map (λ (d : Drawn). d.name)) (slice_get-map drawn_of graphs i
    ∙ ap (option_map drawn_of) (slice_get_read graphs (length graphs) i graph refl within is))

-- its boxes are those of its number
pub boxes_here : (graphs : List Given) (i : ℕ) (graph : Given) → i < length graphs →
    graph ≡ get_or graphs i graph → boxes_of (drawn graphs) (suc i) ≡ graph.1.boxes
boxes_here graphs i graph within is =
    ap boxes_in (slice_get-map drawn_of graphs i
    ∙ ap (option_map drawn_of) (slice_get_read graphs (length graphs) i graph refl within is))

-- where a list of boxes is good, it is so of no node; of no boxes it never is
module _ (IsGood : List GrfBox → Type 0) (IsSo : List GrfBox → (node : ℕ) → Type 0)
    (none : (boxes : List GrfBox) (m : ℕ) → IsGood boxes → IsSo boxes m → ⊥)
    (no_box : (m : ℕ) → IsSo [] m → ⊥) where
  -- where all graphs are good, it is so of no node
  pub good_none : (graphs : List Drawn) → All (λ (d : Drawn). IsGood d.boxes) graphs →
      (g node : ℕ) → IsSo (boxes_of graphs g) node → ⊥
  good_none graphs all zero node so = no_box node so
  good_none graphs all (suc n) node so = by (slice_get_cases graphs n).1
    where
      by : ((d : Drawn) × (n < length graphs) × (slice_get graphs n ≡ Some d)
          × (get_or graphs n d ≡ d))
          ⊎ ((length graphs ≤ n) × (slice_get graphs n ≡ None)) → ⊥
      by (inl h) =
          none h.0.boxes node (subst (λ (d : Drawn). IsGood d.boxes) h.3 (all n h.0 h.1))
          (subst (λ o. IsSo (boxes_in o) node) h.2 so)
      by (inr past) = no_box node (subst (λ o. IsSo (boxes_in o) node) past.1 so)

  module _ (graphs : List Given) (i : ℕ) (graph : Given) (within : i < length graphs)
      (is : graph ≡ get_or graphs i graph)
      (before : All (λ (d : Drawn). IsGood d.boxes) (drawn (take i graphs))) where
    earlier : (h m : ℕ) → h < suc i → IsSo (boxes_of (drawn graphs) h) m → ⊥
    earlier zero m low so = no_box m so
    earlier (suc j) m low so = by (slice_get_cases (drawn graphs) j).1
      where
        by : ((d : Drawn) × (j < length (drawn graphs)) × (slice_get (drawn graphs) j ≡ Some d)
            × (get_or (drawn graphs) j d ≡ d))
            ⊎ ((length (drawn graphs) ≤ j) × (slice_get (drawn graphs) j ≡ None)) → ⊥
        by (inl h) =
            let P : Drawn → Type 0 = λ (d : Drawn). IsGood d.boxes in
            let short : j < i = omega (arith, low) in
            let whole : All P (take i (drawn graphs)) =
            subst (All P) (sym (take-map drawn_of i graphs)) before in
            let inside : j < length (take i (drawn graphs)) =
            (let len = length-take-le i (drawn graphs) (rw (length-map graphs drawn_of)
            (omega (arith, within))) in omega (arith, len, short)) in
            none h.0.boxes m
            (subst P (get_or-take i (drawn graphs) j h.0 short ∙ h.3) (whole j h.0 inside))
            (subst (λ o. IsSo (boxes_in o) m) h.2 so)
        by (inr past) = no_box m (subst (λ o. IsSo (boxes_in o) m) past.1 so)

    -- the first box of this graph is the first of all
    pub first_found : (node : ℕ) → IsSo graph.1.boxes node →
        ((m : ℕ) → m < node → IsSo graph.1.boxes m → ⊥) →
        IsFirst (λ g m. IsSo (boxes_of (drawn graphs) g) m) (suc i) node
    first_found node here least = record {
      here = subst (λ (boxes : List GrfBox). IsSo boxes node)
          (sym (boxes_here graphs i graph within is)) here;
      first = earlier;
      least = λ m low so. least m low
          (subst (λ (boxes : List GrfBox). IsSo boxes m) (boxes_here graphs i graph within is) so);
    }

-- the first box with a bad mask text
pub found_bad : (graphs : List Given) (i : ℕ) (graph : Given) → i < length graphs →
    graph ≡ get_or graphs i graph → AreMasked (drawn (take i graphs)) → (bad : BadText) →
    IsFirstBadBox graph.1.boxes bad →
    IsFirstBadMask (drawn graphs) (string_bytes graph.0) bad.node bad.place
found_bad graphs i graph within is before bad first = (
  suc i,
  named_here graphs i graph within is,
  first_found HaveMasks HasBadText none_bad no_box_bad graphs i graph within is before bad.node
      (bad_here graph.1.boxes bad first) (bad_least graph.1.boxes bad first),
  subst (λ (boxes : List GrfBox). IsFirstBad (mask_texts_in (slice_get boxes bad.node)) bad.place)
      (sym (boxes_here graphs i graph within is)) first.here,
)
