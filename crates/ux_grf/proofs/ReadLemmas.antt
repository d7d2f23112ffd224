-- The boxes of a file, line by line, and the graph that is made of them.
use Rattle.std.proofs.Common.{arith, ◌≡◌, ◌≢◌, ℕ, zero, suc, ◌+◌, ◌<◌, ◌≤◌, List, [], ◌∷◌, ◌++◌, refl, sym, ◌∙◌, ap, subst, ◌⊎◌, inl, inr, true, length, drop, get_or, length-set, map, Option, None, Some, ltb}
use Rattle.std.specs.Prelude.{Contains, slice_get}
use borrow.Author.Count.{below_more}
use Rattle.std.proofs.lemmas.List.{get_or_append_left, get_or_push, length_push, get_or-map, length-map, map-append, get_or-set_same, get_or-set_other, get_or_past}
use Rattle.std.proofs.lemmas.List.Sums.{AllPass-from_list_all}
use Rattle.std.proofs.lemmas.List.Elements.{All-contains}
use Rattle.std.proofs.lemmas.Bool.{ltb-true}
use Rattle.ux_grf.specs.declared.graph.GraphKind.{GraphKind}
use Rattle.ux_grf.specs.declared.box_line.BoxLine.{BoxLine}
use Rattle.ux_grf.specs.declared.error.GrfError.{GrfError}
use Rattle.ux_grf.specs.declared.error.GrfError.TheVariants.{NoHeader, BadCount, BadBoxLine, BadTarget, BadContent, NoMemory}
use Rattle.ux_grf.specs.BoxLine.{BoxText, said_by}
use Rattle.ux_grf.specs.Boxes.{box_in_line, box_at, is_inside, is_good, text_at, IsTextOf, AreTexts, HasBadTarget, RefusesBox, AreGood, RefusesBoxes}
use Rattle.ux_grf.specs.Reached.{row_of, ways_of}
use Rattle.ux_digraph.specs.Paths.{IsInside}
use Rattle.ux_grf.specs.File.{IsNextCount, RefusesTexts, HasTexts, Refuses}
use Rattle.ux_grf.specs.Header.{after_header}
use Rattle.ux_base.specs.Lines.{lines_of}

-- the line in front of what is left
dropped : (lines : List (List ℕ)) (node : ℕ) → slice_get (drop node lines) 0 ≡ slice_get lines node
dropped lines zero = refl
dropped [] (suc node) = refl
dropped (line ∷ lines) (suc node) = dropped lines node

dropped_more : (lines : List (List ℕ)) (node : ℕ) → drop 1 (drop node lines) ≡ drop (suc node) lines
dropped_more [] zero = refl
dropped_more [] (suc node) = refl
dropped_more (line ∷ lines) zero = refl
dropped_more (line ∷ lines) (suc node) = dropped_more lines node

module _ (lines : List (List ℕ)) (node : ℕ) (rest : List (List ℕ))
    (is : rest ≡ drop node lines) where
  pub line_is : (line : Option (List ℕ)) → line ≡ slice_get rest 0 → line ≡ slice_get lines node
  line_is line e = e ∙ (ap (λ ls. slice_get ls 0) is ∙ dropped lines node)

  pub rest_more : (later : List (List ℕ)) → later ≡ drop 1 rest → later ≡ drop (node + 1) lines
  rest_more later e =
      let n : suc node ≡ node + 1 = omega arith in
      e ∙ (ap (drop 1) is ∙ (dropped_more lines node ∙ ap (λ k. drop k lines) n))

-- the first bad line is refused
refuses_at : (count : ℕ) (lines : List (List ℕ)) (node : ℕ) (e : GrfError) → node < count →
    AreGood count lines node →
    RefusesBox count node (box_at lines node) e → RefusesBoxes count lines e
refuses_at count lines node NoHeader lt good h = h
refuses_at count lines node BadCount lt good h = h
refuses_at count lines node (BadBoxLine n) lt good h = (
  subst (λ m. m < count) (sym h.0) lt,
  subst (λ m. AreGood count lines m) (sym h.0) good,
  subst (λ m. box_at lines m ≡ None) (sym h.0) h.1,
)
refuses_at count lines node (BadTarget n) lt good h = (
  subst (λ m. m < count) (sym h.0) lt,
  subst (λ m. AreGood count lines m) (sym h.0) good,
  subst (λ m. HasBadTarget count (box_at lines m)) (sym h.0) h.1,
)
refuses_at count lines node (BadContent n place) lt good h = absurd h
refuses_at count lines node NoMemory lt good h = tt

pub refuses_boxes : (count : ℕ) (lines : List (List ℕ)) (node : ℕ) (line : Option (List ℕ))
    (e : GrfError) →
    node < count → AreGood count lines node → line ≡ slice_get lines node →
    RefusesBox count node (box_in_line line) e → RefusesBoxes count lines e
refuses_boxes count lines node line e lt good is h =
    refuses_at count lines node e lt good (subst (λ l. RefusesBox count node
    (box_in_line l) e) is h)

pub good_more : (count : ℕ) (lines : List (List ℕ)) (node : ℕ) (line : Option (List ℕ)) →
    AreGood count lines node → line ≡ slice_get lines node →
    is_good count (box_in_line line) ≡ true →
    AreGood count lines (node + 1)
good_more count lines node line good is here =
    below_more (λ m. is_good count (box_at lines m) ≡ true) node good
    (subst (λ l. is_good count (box_in_line l) ≡ true) is here)

pub texts_more : (lines : List (List ℕ)) (node : ℕ) (line : Option (List ℕ))
    (boxes more : List BoxLine) (said : BoxLine) →
    AreTexts node lines (map said_by boxes) → line ≡ slice_get lines node →
    IsTextOf (box_in_line line) (said_by said) →
    more ≡ boxes ++ said ∷ [] → AreTexts (node + 1) lines (map said_by more)
texts_more lines node line boxes more said before is here pushed =
    subst (AreTexts (node + 1) lines)
    (sym (ap (map said_by) pushed ∙ map-append said_by boxes (said ∷ []))) (record {
      len = length_push texts (said_by said) ∙ ap (λ n. n + 1) before.len;
      each = below_more (λ m. IsTextOf (box_at lines m) (text_at (texts ++ said_by said ∷ []) m))
          node
          (λ m lt. subst (IsTextOf (box_at lines m))
          (sym (get_or_append_left texts (said_by said ∷ []) _ m (omega (arith, lt, before.len))))
          (before.each m lt))
          (subst (IsTextOf (box_at lines node))
          (sym (get_or_push texts (said_by said) _ node before.len))
          (subst (λ l. IsTextOf (box_in_line l) (said_by said)) is here));
    })
  where
    texts : List BoxText
    texts = map said_by boxes

-- what the line at a place says
pub text_is : (boxes : List BoxLine) (node : ℕ) (line : BoxLine) → node < length boxes →
    line ≡ get_or boxes node line →
    said_by line ≡ text_at (map said_by boxes) node
text_is boxes node line lt is =
    ap said_by is ∙ sym (get_or-map said_by boxes node line (record {
      content = [];
      targets =
          [];
    }) lt)

-- what the reader takes the targets from
pub targets_said : (boxes : List BoxLine) →
    map (λ (t : BoxText). t.targets) (map said_by boxes) ≡ map (λ
    (b : BoxLine). b.targets.items) boxes
targets_said [] = refl
targets_said (b ∷ boxes) = ap (λ rows. b.targets.items ∷ rows) (targets_said boxes)

-- ways lead to boxes where targets do
pub ways_inside : (rows : List (List ℕ)) → 1 < length rows → IsInside rows → IsInside (ways_of rows)
ways_inside rows two inside = record {
  inside = λ u v h. subst (λ n. v < n) (sym (length-set rows 1 [])) (elim (same_or u 1) [
    | inl e ↦
        let none : row_of (ways_of rows) u ≡ [] = ap (row_of (ways_of rows)) e
        ∙ get_or-set_same rows 1 [] [] two in
        let c = subst (λ (xs : List ℕ). Contains xs v) none h in absurd (omega (arith, c.1))
    | inr n ↦ inside.inside u v (subst (λ (xs : List ℕ). Contains xs v)
        (get_or-set_other rows 1 u [] [] n) h)
  ]);
}
  where
    same_or : (a b : ℕ) → (a ≡ b) ⊎ (a ≢ b)
    same_or zero zero = inl refl
    same_or (suc a) zero = inr (λ e. absurd (omega arith))
    same_or zero (suc b) = inr (λ e. absurd (omega arith))
    same_or (suc a) (suc b) = elim (same_or a b) [
      | inl e ↦ inl (omega arith)
      | inr n ↦ inr
          (λ e. n (omega arith))
    ]

contained : (count : ℕ) (numbers : List ℕ) (t : ℕ) → is_inside count numbers ≡ true →
    Contains numbers t → t < count
contained count numbers t e h =
    ltb-true t count
    (All-contains (λ (x : ℕ). ltb x count ≡ true) numbers t (AllPass-from_list_all
    (λ x. ltb x count) numbers e) h)

-- the targets of a good line's box are boxes
pub targets_inside : (count : ℕ) (said : Option BoxText) (text : BoxText) → is_good count said ≡ true →
    IsTextOf said text → (t : ℕ) → Contains text.targets t → t < count
targets_inside count None text good tells t has = absurd tells
targets_inside count (Some said) text good tells t has =
    contained count said.targets t good ((tells.1.same t).0 has)

pub texts_inside : (count : ℕ) (lines : List (List ℕ)) (texts : List BoxText) →
    AreTexts count lines texts → AreGood count lines count →
    IsInside (map (λ (t : BoxText). t.targets) texts)
texts_inside count lines texts told good = record {
  inside = λ u v h. elim (less_or u count) [
    | inl lt ↦
        subst (λ n. v < n) (sym len)
        (targets_inside count (box_at lines u) (text_at texts u) (good u lt) (told.each u lt) v
        (subst (λ (xs : List ℕ). Contains xs v) (row_is u lt) h))
    | inr past ↦
        let none : row_of (map (λ (t : BoxText). t.targets) texts) u ≡ [] =
        get_or_past (map (λ (t : BoxText). t.targets) texts) u [] (omega (arith, past, len)) in
        let c = subst (λ (xs : List ℕ). Contains xs v) none h in absurd (omega (arith, c.1))
  ];
}
  where
    len : length (map (λ (t : BoxText). t.targets) texts) ≡ count
    len = length-map texts (λ (t : BoxText). t.targets) ∙ told.len

    row_is : (u : ℕ) → u < count →
        row_of (map (λ (t : BoxText). t.targets) texts) u ≡ (text_at texts u).targets
    row_is u lt =
        get_or-map (λ (t : BoxText). t.targets) texts u (record { content = []; targets = [] }) []
        (omega (arith, lt, told.len))

    less_or : (a b : ℕ) → (a < b) ⊎ (b ≤ a)
    less_or zero zero = inr (omega arith)
    less_or zero (suc b) = inl (omega arith)
    less_or (suc a) zero = inr (omega arith)
    less_or (suc a) (suc b) = elim (less_or a b) [
      | inl h ↦ inl (omega arith)
      | inr e ↦ inr
          (omega arith)
    ]

pub boxes_len : (count : ℕ) (lines : List (List ℕ)) (boxes : List BoxLine) →
    AreTexts count lines (map said_by boxes) → length boxes ≡ count
boxes_len count lines boxes told = sym (length-map boxes said_by) ∙ told.len

pub boxes_inside : (count : ℕ) (lines : List (List ℕ)) (boxes : List BoxLine) →
    AreTexts count lines (map said_by boxes) → AreGood count lines count →
    IsInside (map (λ (b : BoxLine). b.targets.items) boxes)
boxes_inside count lines boxes told good =
    subst (λ rows. IsInside rows) (targets_said boxes)
    (texts_inside count lines (map said_by boxes) told good)

-- the boxes that were read are those that the file tells of
pub has_texts : (text : List ℕ) (count : ℕ) (before lines : List (List ℕ))
    (boxes read : List BoxLine) → after_header (lines_of text) ≡ Some before →
    IsNextCount before lines count → AreGood count lines count →
    AreTexts count lines (map said_by read) → boxes ≡ read → HasTexts text (map said_by boxes)
has_texts text count before lines boxes read header next good told is = record {
  count = count;
  lines = lines;
  has = record { first = next.0; header = header ∙ ap Some next.1; told = next.2 };
  good = good;
  told = subst (λ (bs : List BoxLine). AreTexts count lines (map said_by bs)) (sym is) told;
}

-- a graph that isn't made refuses the file
pub texts_refuse : (kind : GraphKind) (text : List ℕ) (texts : List BoxText) (e : GrfError) → HasTexts text texts →
    RefusesTexts kind texts e → Refuses kind text e
texts_refuse kind text texts NoHeader has h = absurd h
texts_refuse kind text texts BadCount has h = absurd h
texts_refuse kind text texts (BadBoxLine n) has h = absurd h
texts_refuse kind text texts (BadTarget n) has h = absurd h
texts_refuse kind text texts (BadContent node place) has h = (texts, has, h)
texts_refuse kind text texts NoMemory has h = tt
