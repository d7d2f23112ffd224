-- The first bad mask text, as the texts of items, lines and boxes are looked at one after another.
use Rattle.std.proofs.Common.{arith, ◌≡◌, ℕ, ◌+◌, ◌<◌, ◌≤◌, List, [], ◌∷◌, ◌++◌, refl, sym, ◌∙◌, ap, subst, append_assoc, length, get_or, take, drop, Option, None, Some, inl, inr, false}
use Rattle.std.specs.Prelude.{Contains, MatchOption, slice_get}
use Rattle.std.specs.List.{flat_map}
use Rattle.std.proofs.lemmas.Grind.{flat_map-append}
use Rattle.std.proofs.lemmas.List.{append-nil, drop_more, take-append-drop, take_all}
use Rattle.std.proofs.lemmas.List.Elements.{All-append, All-cons, All-contains, All-nil, Contains-append_right, Contains-get_or}
use Rattle.std.proofs.lemmas.Option.{slice_get_past, slice_get_read, slice_get-get_or}
use Rattle.ux_grf.specs.declared.graph.GrfBox.{GrfBox}
use Rattle.ux_grf.specs.declared.item.Item.{Item}
use Rattle.ux_masks.specs.Texts.{IsBadAt}
use Rattle.ux_boxes.specs.declared.bad_masks.BadText.{BadText}
use Rattle.ux_boxes.specs.BadMasks.{Checks, IsFirstBadBox}
use Rattle.ux_boxes.specs.MaskTexts.{mask_texts_of_item, mask_texts_of_line, mask_texts_of, mask_texts_in, IsMask, AreMasks, HaveMasks, IsFirstBad}
use Rattle.ux_base.proofs.Lists.{contains_first, less_or, nothing_in}
use Rattle.ux_base.proofs.JoinedLists.{contains_joined}
use Rattle.ux_boxes.proofs.SplittingLemmas.{take-next}

module _ {X : Type 0} (f : X → List (List ℕ)) (xs : List X) (i : ℕ) where
  -- one more list of texts that are masks'
  pub masks_more : (x : X) → i < length xs → x ≡ get_or xs i x →
      AreMasks (flat_map f (take i xs)) → AreMasks (f x) → AreMasks (flat_map f (take (i + 1) xs))
  masks_more x within is before here =
      subst AreMasks (sym whole) (All-append IsMask (flat_map f (take i xs)) (f x) before here)
    where
      whole : flat_map f (take (i + 1) xs) ≡ flat_map f (take i xs) ++ f x
      whole =
          ap (flat_map f) (sym (take-next xs i x within is))
          ∙ (flat_map-append f (take i xs) (x ∷ [])
          ∙ ap (λ (last : List (List ℕ)). flat_map f (take i xs) ++ last) (append-nil (f x)))

  -- at the end all are
  pub masks_all : length xs ≤ i → AreMasks (flat_map f (take i xs)) → AreMasks (flat_map f xs)
  masks_all past all = subst (λ (l : List X). AreMasks (flat_map f l)) (take_all i xs past) all

  -- the first bad text of the next list is the first of all
  pub bad_more : (x : X) (place : ℕ) → i < length xs → x ≡ get_or xs i x →
      AreMasks (flat_map f (take i xs)) → IsFirstBad (f x) place → IsFirstBad (flat_map f xs) place
  bad_more x place within is so_far first = record {
    before = flat_map f (take i xs) ++ first.before;
    text = first.text;
    after = first.after ++ rest;
    all =
        ap (flat_map f) split
        ∙ (flat_map-append f (take i xs) (x ∷ drop (i + 1) xs)
        ∙ (ap (λ (l : List (List ℕ)). flat_map f (take i xs) ++ (l ++ rest)) first.all
        ∙ (ap (λ (l : List (List ℕ)). flat_map f (take i xs) ++ l)
        (append_assoc first.before (first.text ∷ first.after) rest)
        ∙ sym (append_assoc (flat_map f (take i xs)) first.before
        (first.text ∷ (first.after ++ rest))))));
    good = All-append IsMask (flat_map f (take i xs)) first.before so_far first.good;
    bad = first.bad;
  }
    where
      rest : List (List ℕ)
      rest = flat_map f (drop (i + 1) xs)

      split : xs ≡ take i xs ++ x ∷ drop (i + 1) xs
      split =
          sym (take-append-drop i xs)
          ∙ ap (λ (l : List X). take i xs ++ l) (drop_more xs i x within
          ∙ ap (λ (y : X). y ∷ drop (i + 1) xs) (sym is))

-- the texts of an item are those of its line and its box
pub item_masks : (box : GrfBox) (line : List Item) (x : Item) → AreMasks (mask_texts_of box) →
    Contains box.lines line → Contains line x → AreMasks (mask_texts_of_item x)
item_masks box line x all of_box of_line i text lt =
    All-contains IsMask (mask_texts_of box) (get_or (mask_texts_of_item x) i text) all
    (contains_joined mask_texts_of_line box.lines line (get_or (mask_texts_of_item x) i text) of_box
    (contains_joined mask_texts_of_item line x (get_or (mask_texts_of_item x) i text) of_line
    (Contains-get_or (mask_texts_of_item x) i text lt)))

-- the box of this number has a text that is no mask's
abbrev pub HasBadText : List GrfBox → (node : ℕ) → Type 0
HasBadText boxes node =
    (text : List ℕ) × Contains (mask_texts_in (slice_get boxes node)) text × (IsMask text → ⊥)

-- the boxes before this one have no bad text
abbrev pub AreMasksBefore : List GrfBox → ℕ → Type 0
AreMasksBefore boxes n = (m : ℕ) → m < n → AreMasks (mask_texts_in (slice_get boxes m))

module _ (boxes : List GrfBox) where
  -- one box more whose texts are masks
  pub boxes_more : (n : ℕ) (box : GrfBox) → n < length boxes → box ≡ get_or boxes n box →
      AreMasksBefore boxes n → AreMasks (mask_texts_of box) → AreMasksBefore boxes (n + 1)
  boxes_more n box within is before here m lt = elim (less_or m n) [
    | inl less ↦ before m less
    | inr past ↦
        let e : n ≡ m = omega (arith, lt, past) in
        subst (λ (k : ℕ). AreMasks (mask_texts_in (slice_get boxes k))) e
        (subst (λ (o : Option GrfBox). AreMasks (mask_texts_in o))
        (sym (slice_get_read boxes (length boxes) n box refl within is)) here)
  ]

  -- at the end of a loop all boxes have masks
  pub boxes_all : (n : ℕ) → length boxes ≤ n → AreMasksBefore boxes n → HaveMasks boxes
  boxes_all n past before i box lt =
      subst (λ (o : Option GrfBox). AreMasks (mask_texts_in o)) (slice_get-get_or boxes i box lt)
      (before i (omega (arith, past, lt)))

  -- the first box with a bad text
  pub box_bad : (n : ℕ) (box : GrfBox) (place : ℕ) → n < length boxes → box ≡ get_or boxes n box →
      AreMasksBefore boxes n → IsFirstBad (mask_texts_of box) place →
      IsFirstBadBox boxes (record { node = n; place = place })
  box_bad n box place within is before first = record {
    here = subst (λ (o : Option GrfBox). IsFirstBad (mask_texts_in o) place)
        (sym (slice_get_read boxes (length boxes) n box refl within is)) first;
    before = before;
  }

  -- where all are masks, no box has a bad text
  pub none_bad : (m : ℕ) → HaveMasks boxes → HasBadText boxes m → ⊥
  none_bad m all (text, has, bad) = elim (less_or m (length boxes)) [
    | inl lt ↦
        let d : GrfBox = record { reached = false; lines = []; output = []; targets = [] } in
        bad (All-contains IsMask (mask_texts_of (get_or boxes m d)) text (all m d lt)
        (subst (λ (o : Option GrfBox). Contains (mask_texts_in o) text)
        (slice_get-get_or boxes m d lt) has))
    | inr past ↦
        nothing_in (subst (λ (o : Option GrfBox). Contains (mask_texts_in o) text)
        (slice_get_past boxes m past) has)
  ]

  -- the first bad box has one
  pub bad_here : (bad : BadText) → IsFirstBadBox boxes bad → HasBadText boxes bad.node
  bad_here bad first = (
    first.here.text,
    subst (λ (l : List (List ℕ)). Contains l first.here.text) (sym first.here.all)
        (Contains-append_right first.here.before (first.here.text ∷ first.here.after) first.here.text
        (contains_first first.here.text first.here.after)),
    λ is. first.here.bad.none is.0 is.1,
  )

  -- and no box before it has
  pub bad_least : (bad : BadText) → IsFirstBadBox boxes bad → (m : ℕ) → m < bad.node →
      HasBadText boxes m → ⊥
  bad_least bad first m low (text, has, not_mask) =
      not_mask (All-contains IsMask (mask_texts_in (slice_get boxes m)) text (first.before m low) has)

-- of no boxes none has one
pub no_box_bad : (m : ℕ) → HasBadText [] m → ⊥
no_box_bad m (text, has, bad) =
    nothing_in (subst (λ (o : Option GrfBox). Contains (mask_texts_in o) text)
    (slice_get_past [] m (omega arith)) has)

-- one text, as it was looked at
pub one_text : (seen text : List ℕ) → seen ≡ text → (place : Option ℕ) →
    MatchOption place (IsMask seen) (IsBadAt seen) → Checks (text ∷ []) place
one_text seen text is None told =
    subst (λ (t : List ℕ). AreMasks (t ∷ [])) is (All-cons IsMask seen [] told (All-nil IsMask))
one_text seen text is (Some place) told =
    subst (λ (t : List ℕ). IsFirstBad (t ∷ []) place) is (record {
      before = [];
      text = seen;
      after = [];
      all = refl;
      good = All-nil IsMask;
      bad = told;
    })
