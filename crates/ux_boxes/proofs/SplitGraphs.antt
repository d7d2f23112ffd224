-- The places of all graphs are those of each, and what is asked of graphs before they are split.
use Rattle.std.proofs.Common.{arith, ◌≡◌, ℕ, zero, suc, ◌+◌, ◌-◌, ◌<◌, ◌≤◌, List, [], ◌∷◌, ◌++◌, refl, sym, ◌∙◌, ap, subst, Bool, true, false, length, get_or, map, take, Some, String, Global}
use Rattle.std.specs.Prelude.{All, Contains, slice_get, string_bytes}
use Rattle.std.specs.List.{AllZip, list_any}
use Rattle.std.specs.Option.{option_map}
use Rattle.std.proofs.lemmas.List.{take_all}
use Rattle.std.proofs.lemmas.List.Elements.{All-contains, Contains-get_or}
use Rattle.std.proofs.lemmas.List.Folds.{list_any_at}
use Rattle.std.proofs.lemmas.Option.{slice_get-map, slice_get_read, slice_get_within, get_or_from_slice_get}
use Rattle.ux_alphabet.specs.Letters.{Letters}
use Rattle.ux_grf.specs.declared.graph.GrfBox.{GrfBox}
use Rattle.ux_grf.specs.declared.item.Item.{Item}
use Rattle.ux_grf.specs.declared.item.Item.TheVariants as item
use Rattle.ux_grf.proofs.CallsLemmas.{calls_of-Contains}
use Rattle.ux_boxes.specs.declared.place.Place.{Place}
use Rattle.ux_boxes.specs.Boxes.{Drawn, boxes_of, names_of}
use Rattle.ux_boxes.specs.Splitting.{AreSplit, IsSplittable, IsSplittableBox}
use Rattle.ux_boxes.specs.Places.{ArePlaces, places_of}
use Rattle.ux_boxes.specs.Refusing.{drawn_of, drawn, is_name_at, AreMasked, AreWhole, calls_in, calls_of}
use Rattle.ux_boxes.specs.MaskTexts.{mask_texts_of_item, mask_texts_of, AreMasks, HaveMasks}
use Rattle.ux_boxes.proofs.MaskTextsLemmas.{item_masks}
use Rattle.ux_boxes.proofs.RefusingLemmas.{Given}
use Rattle.ux_boxes.proofs.SplittingLemmas.{AllZip-grown, take-next}

abbrev pub bytes_of : List (String Global) → List (List ℕ)
bytes_of names = map string_bytes names

-- the name of a number, counted from 1, is the one there
pub named_number : (names : List (String Global)) (g : ℕ) (name : String Global) → 1 ≤ g →
    g ≤ length names → name ≡ get_or names (g - 1) name →
    is_name_at (bytes_of names) g (string_bytes name)
named_number names zero name from to is = absurd (omega (arith, from))
named_number names (suc n) name from to is =
    let same : suc n - 1 ≡ n = omega arith in
    slice_get-map string_bytes names n
    ∙ ap (option_map string_bytes) (slice_get_read names (length names) n name refl
    (omega (arith, to)) (is ∙ ap (λ m. get_or names m name) same))

-- the places of each graph are those of its boxes
abbrev pub AreSplitTo : Letters → List (List ℕ) → List Given → List (List Place) → Type 0
AreSplitTo alphabet names graphs places =
    AllZip (λ (graph : Given) (p : List Place). ArePlaces alphabet names graph.1.boxes p) graphs places

module _ (alphabet : Letters) (names : List (List ℕ)) where
  abbrev Are : Given → List Place → Type 0
  Are graph p = ArePlaces alphabet names graph.1.boxes p

  -- those of one graph more
  pub split_more : (graphs : List Given) (i : ℕ) (graph : Given) (places : List (List Place))
      (one : List Place) → i < length graphs → graph ≡ get_or graphs i graph →
      AreSplitTo alphabet names (take i graphs) places →
      ArePlaces alphabet names graph.1.boxes one →
      AreSplitTo alphabet names (take (i + 1) graphs) (places ++ one ∷ [])
  split_more graphs i graph places one within is so_far here =
      subst (λ (l : List Given). AreSplitTo alphabet names l (places ++ one ∷ []))
      (take-next graphs i graph within is)
      (AllZip-grown Are (take i graphs) places graph one so_far here)

  split_len : (graphs : List Given) (places : List (List Place)) →
      AreSplitTo alphabet names graphs places → length places ≡ length (drawn graphs)
  split_len [] [] z = refl
  split_len [] (p ∷ places) z = absurd z
  split_len (graph ∷ graphs) [] z = absurd z
  split_len (graph ∷ graphs) (p ∷ places) z = ap suc (split_len graphs places z.1)

  split_each : (graphs : List Given) (places : List (List Place)) →
      AreSplitTo alphabet names graphs places → (n : ℕ) → n < length (drawn graphs) →
      ArePlaces alphabet names (boxes_of (drawn graphs) (suc n)) (places_of places (suc n))
  split_each [] places z n h = absurd (omega (arith, h))
  split_each (graph ∷ graphs) [] z n h = absurd z
  split_each (graph ∷ graphs) (p ∷ places) z zero h = z.0
  split_each (graph ∷ graphs) (p ∷ places) z (suc n) h =
      split_each graphs places z.1 n (omega (arith, h))

-- at the end those of all graphs
pub split_all : (alphabet : Letters) (graphs : List Given) (names : List (List ℕ))
    (places : List (List Place)) (i : ℕ) → length graphs ≤ i → names ≡ names_of (drawn graphs) →
    AreSplitTo alphabet names (take i graphs) places → AreSplit alphabet (drawn graphs) places
split_all alphabet graphs names places i past is so_far =
    let whole : AreSplitTo alphabet (names_of (drawn graphs)) graphs places =
    subst (λ (l : List (List ℕ)). AreSplitTo alphabet l graphs places) is
    (subst (λ (l : List Given). AreSplitTo alphabet names l places)
    (take_all i graphs past) so_far) in
    record {
      count = split_len alphabet (names_of (drawn graphs)) graphs places whole;
      each = split_each alphabet (names_of (drawn graphs)) graphs places whole;
    }

-- an item of which each mask text is a mask's and each call finds a graph has labels
splittable : (names : List (List ℕ)) (x : Item) → AreMasks (mask_texts_of_item x) →
    ((name : List ℕ) → x ≡ item.Call name → Contains names name) → IsSplittable names x
splittable names (item.Literal text) masks there = tt
splittable names (item.Quoted text) masks there = tt
splittable names item.NoSpace masks there = tt
splittable names item.Empty masks there = tt
splittable names (item.Call name) masks there = there name refl
splittable names (item.Mask text) masks there = masks 0 text (omega arith)
splittable names (item.Brace text) masks there = tt
splittable names (item.Begin name) masks there = tt
splittable names (item.End name) masks there = tt
splittable names item.Positive masks there = tt
splittable names item.Negative masks there = tt
splittable names item.ContextEnd masks there = tt
splittable names item.Cut masks there = tt

-- where no element passes a test, each fails it
pub none_passes : {A : Type 0} (p : A → Bool) (xs : List A) (x : A) → list_any p xs ≡ false →
    Contains xs x → p x ≡ false
none_passes p xs x none (k, lt, is) = by (p x) refl
  where
    by : (b : Bool) → p x ≡ b → p x ≡ false
    by false e = e
    by true e =
        let some : list_any p xs ≡ true =
        list_any_at p xs k x lt (ap p is ∙ e) in
        absurd cc

all_in : {A : Type 0} (P : A → Type 0) (xs : List A) → ((x : A) → Contains xs x → P x) → All P xs
all_in P xs each i d lt = each (get_or xs i d) (Contains-get_or xs i d lt)

module _ (graphs : List Given) (whole : AreWhole (drawn graphs))
    (masked : AreMasked (drawn graphs)) where
  abbrev names : List (List ℕ)
  names = names_of (drawn graphs)

  -- each box of each graph can be split
  pub all_splittable :
      All (λ (graph : Given). All (IsSplittableBox names) graph.1.boxes) graphs
  all_splittable = all_in (λ (graph : Given). All (IsSplittableBox names) graph.1.boxes) graphs
      (λ graph there. all_in (IsSplittableBox names) graph.1.boxes
      (λ box of_graph. all_in (All (IsSplittable names)) box.lines
      (λ line of_box. all_in (IsSplittable names) line
      (λ x of_line. one graph there box of_graph line of_box x of_line))))
    where
      one : (graph : Given) → Contains graphs graph → (box : GrfBox) →
          Contains graph.1.boxes box → (line : List Item) → Contains box.lines line →
          (x : Item) → Contains line x → IsSplittable names x
      one graph (n, lt, is) box of_graph line of_box x of_line =
          splittable names x
          (item_masks box line x (All-contains (λ (b : GrfBox). AreMasks (mask_texts_of b))
          graph.1.boxes box masks_here of_graph) of_box of_line)
          (λ name call. whole n name
          (subst (λ (l : List (List ℕ)). Contains l name) (sym calls_at)
          ((calls_of-Contains (record { boxes = graph.1.boxes }) name).1
          (box, line, of_graph, of_box, subst (λ (y : Item). Contains line y) call of_line))))
        where
          at : slice_get (drawn graphs) n ≡ Some (drawn_of graph)
          at =
              slice_get-map drawn_of graphs n
              ∙ ap (option_map drawn_of) (slice_get_read graphs (length graphs) n graph refl lt (sym is))

          calls_at : calls_in (slice_get (drawn graphs) n) ≡ calls_of (drawn_of graph)
          calls_at = ap calls_in at

          masks_here : HaveMasks graph.1.boxes
          masks_here =
              subst (λ (d : Drawn). HaveMasks d.boxes)
              (get_or_from_slice_get (drawn graphs) n (drawn_of graph) (drawn_of graph) at)
              (masked n (drawn_of graph) (slice_get_within (drawn graphs) n (drawn_of graph) at))
