-- The places of a well formed graph are fit to be made into states.
use Rattle.std.proofs.Common.{arith, ◌≡◌, ◌≢◌, ℕ, zero, suc, ◌+◌, ◌<◌, ◌≤◌, List, [], ◌∷◌, ◌++◌, refl, sym, ◌∙◌, ap, subst, Bool, true, false, ◌↔◌, ◌⊎◌, inl, inr, length, length-append, get_or, map, None, Some, cond}
use Rattle.std.specs.Prelude.{All, Contains, slice_get}
use Rattle.std.specs.List.{AllZip}
use Rattle.std.proofs.lemmas.List.{append-nil}
use Rattle.std.proofs.lemmas.Bool.{lt-ltb}
use Rattle.std.proofs.lemmas.List.Elements.{All-nil, All-cons, All-tail, All-append, All-contains, All-weaker}
use Rattle.std.proofs.lemmas.Option.{slice_get_cases, slice_get_within, get_or_from_slice_get}
use Rattle.ux_alphabet.specs.Letters.{Letters, is_separator}
use Rattle.ux_tokens.specs.declared.kind.Kind.{Kind}
use Rattle.ux_tokens.specs.declared.kind.Kind.TheVariants as kind
use Rattle.ux_tokens.specs.Tokens.{Token, ArePlainTokens, with_single_spaces, begins_with_separator}
use Rattle.ux_grf.specs.declared.graph.Graph.{Graph}
use Rattle.ux_grf.specs.declared.graph.GrfBox.{GrfBox}
use Rattle.ux_grf.specs.declared.item.Item.{Item}
use Rattle.ux_grf.specs.declared.item.Item.TheVariants as item
use Rattle.ux_grf.specs.Reached.{ways_of, Reached, start}
use Rattle.ux_grf.specs.WellFormed.{box_of_graph, ways_of_graph, HasText, may_be_beside, IsFilled, IsWellFormedBox, IsWellFormed}
use Rattle.ux_net.specs.declared.label.Label.{Label}
use Rattle.ux_net.specs.declared.label.Label.TheVariants.{Empty, CaseFolded, CaseExact, Mask, Brace, Space, NoSpace, Begin, End, Positive, Negative, ContextEnd, Cut, Call}
use Rattle.ux_boxes.specs.declared.place.Place.{Place}
use Rattle.ux_boxes.specs.Boxes.{box_reached_in, fold_label, exact_label, IsCut, IsSplit, IsSplitLine, lines_at, targets_at, box_targets_in, box_lines_in}
use Rattle.ux_boxes.specs.Places.{label_lines, targets_in, is_reached, ArePlaces}
use Rattle.ux_net.specs.Nets.{IsCalled}
use Rattle.ux_boxes.specs.Fit.{is_call, is_mark, IsFitLine, place_ways, HasTargetsInside, IsFit, HasLinesWhereReached}

-- a text that isn't empty has something left when its spaces are single
kept : (b : ℕ) (s t : Bool) (rest : List ℕ) → (t ≡ true → 0 < length rest) →
    0 < length (cond s (cond t rest (32 ∷ rest)) (b ∷ rest))
kept b true true rest h = h refl
kept b true false rest h = omega arith
kept b false t rest h = omega arith

spaced : (text : List ℕ) → 0 < length text → 0 < length (with_single_spaces text)
spaced [] h = absurd (omega (arith, h))
spaced (b ∷ []) h = kept b (is_separator b) false [] (λ e. absurd cc)
spaced (b ∷ c ∷ rest) h =
    kept b (is_separator b) (begins_with_separator (c ∷ rest)) (with_single_spaces (c ∷ rest))
    (λ e. spaced (c ∷ rest) (omega arith))

-- a text that isn't empty has a label
cut_some : (alphabet : Letters) (label_of : Kind → List ℕ → Label) (text : List ℕ)
    (labels : List Label) → 0 < length text → IsCut alphabet label_of text labels →
    0 < length labels
cut_some alphabet label_of text labels some (tokens, are, is) = go tokens are is
  where
    go : (tokens : List Token) → ArePlainTokens alphabet text tokens →
        labels ≡ map (λ (token : Token). label_of token.kind token.text) tokens →
        0 < length labels
    go [] are is =
        let none = spaced text some in
        let whole = ap (λ (l : List ℕ). length l) are.cut.whole in
        absurd (omega (arith, none, whole))
    go (token ∷ tokens) are is = rw is (omega arith)

-- no label of the line is a call
abbrev NoCall : List Label → Type 0
NoCall labels = All (λ (x : Label). is_call x ≡ false) labels

-- a label that others may stand beside: it calls nothing, and opens and closes no context
abbrev MayBeBeside : Label → Type 0
MayBeBeside (Call h) = ⊥
MayBeBeside Positive = ⊥
MayBeBeside Negative = ⊥
MayBeBeside ContextEnd = ⊥
MayBeBeside x = Unit {0}

beside_calls_none : (x : Label) → MayBeBeside x → is_call x ≡ false
beside_calls_none (Call h) b = absurd b
beside_calls_none x b = refl

beside_marks_none : (x : Label) → MayBeBeside x → is_mark x ≡ false
beside_marks_none Positive b = absurd b
beside_marks_none Negative b = absurd b
beside_marks_none ContextEnd b = absurd b
beside_marks_none x b = refl

-- others may stand beside each label of the line
abbrev AllBeside : List Label → Type 0
AllBeside labels = All MayBeBeside labels

-- so it is with what a text is cut into
cut_beside : (label_of : Kind → List ℕ → Label) →
    ((k : Kind) (text : List ℕ) → MayBeBeside (label_of k text)) → (tokens : List Token) →
    AllBeside (map (λ (token : Token). label_of token.kind token.text) tokens)
cut_beside label_of beside [] = All-nil MayBeBeside
cut_beside label_of beside (token ∷ tokens) =
    All-cons MayBeBeside (label_of token.kind token.text)
    (map (λ (t : Token). label_of t.kind t.text) tokens) (beside token.kind token.text)
    (cut_beside label_of beside tokens)

fold_beside : (k : Kind) (text : List ℕ) → MayBeBeside (fold_label k text)
fold_beside kind.Word text = tt
fold_beside kind.Space text = tt
fold_beside kind.Other text = tt
fold_beside kind.Sentence text = tt
fold_beside kind.Stop text = tt
fold_beside kind.Tag text = tt

exact_beside : (k : Kind) (text : List ℕ) → MayBeBeside (exact_label k text)
exact_beside kind.Word text = tt
exact_beside kind.Space text = tt
exact_beside kind.Other text = tt
exact_beside kind.Sentence text = tt
exact_beside kind.Stop text = tt
exact_beside kind.Tag text = tt

one_beside : (x : Label) → MayBeBeside x → AllBeside (x ∷ [])
one_beside x b = All-cons MayBeBeside x [] b (All-nil MayBeBeside)

-- a line of one label that is no call
one_none : (x : Label) → is_call x ≡ false → NoCall (x ∷ [])
one_none x h =
    All-cons (λ (x : Label). is_call x ≡ false) x [] h (All-nil (λ (x : Label). is_call x ≡ false))

-- a label that calls nothing calls no graph that isn't there
called_none : (count : ℕ) (x : Label) → is_call x ≡ false → IsCalled count x
called_none count Empty h = tt
called_none count (CaseFolded text) h = tt
called_none count (CaseExact text) h = tt
called_none count (Mask text) h = tt
called_none count (Brace text) h = tt
called_none count Space h = tt
called_none count NoSpace h = tt
called_none count (Begin name) h = tt
called_none count (End name) h = tt
called_none count Positive h = tt
called_none count Negative h = tt
called_none count ContextEnd h = tt
called_none count Cut h = tt
called_none count (Call g) h = absurd (cc)

-- no label of the line opens or closes a context
abbrev NoMark : List Label → Type 0
NoMark labels = All (λ (x : Label). is_mark x ≡ false) labels

-- a line of such labels calls nothing, and opens and closes no context
calls_none : (labels : List Label) → AllBeside labels → NoCall labels
calls_none labels all =
    All-weaker MayBeBeside (λ (x : Label). is_call x ≡ false) beside_calls_none labels all

marks_none : (labels : List Label) → AllBeside labels → NoMark labels
marks_none labels all =
    All-weaker MayBeBeside (λ (x : Label). is_mark x ≡ false) beside_marks_none labels all

-- a line that has a label, and calls nothing, is fit where it has no mark or is one label
plain_fit : (count : ℕ) (labels : List Label) → 0 < length labels → NoCall labels →
    (1 < length labels → NoMark labels) → IsFitLine count labels
plain_fit count labels some none unmarked = record {
  line = record { some = some; lone = λ more. none; marks = unmarked };
  called = All-weaker (λ (x : Label). is_call x ≡ false) (IsCalled count) (called_none count)
      labels none;
}

-- a call of a graph that is there, alone on its line, is fit
call_fit : (count h : ℕ) (labels : List Label) → labels ≡ Call h ∷ [] → 1 ≤ h → h ≤ count →
    IsFitLine count labels
call_fit count h labels is from to = subst (IsFitLine count) (sym is) (record {
  line = record {
    some = omega arith;
    lone = λ more. absurd (omega (arith, more));
    marks = λ more. absurd (omega (arith, more));
  };
  called = All-cons (IsCalled count) (Call h) [] (from, to) (All-nil (IsCalled count));
})

module _ (alphabet : Letters) (names : List (List ℕ)) where
  -- an item has a label
  item_some : (x : Item) (labels : List Label) → HasText x → IsSplit alphabet names x labels →
      0 < length labels
  item_some (item.Literal text) labels h s = cut_some alphabet fold_label text labels h s
  item_some (item.Quoted text) labels h s = cut_some alphabet exact_label text labels h s
  item_some item.NoSpace labels h s = rw s (omega arith)
  item_some item.Empty labels h s = rw s (omega arith)
  item_some (item.Call name) labels h s = rw s.2 (omega arith)
  item_some (item.Mask text) labels h s = rw s.2 (omega arith)
  item_some (item.Brace text) labels h s = rw s (omega arith)
  item_some (item.Begin name) labels h s = rw s (omega arith)
  item_some (item.End name) labels h s = rw s (omega arith)
  item_some item.Positive labels h s = rw s (omega arith)
  item_some item.Negative labels h s = rw s (omega arith)
  item_some item.ContextEnd labels h s = rw s (omega arith)
  item_some item.Cut labels h s = rw s (omega arith)

  -- the labels of an item that may have others beside it are such
  item_beside : (x : Item) (labels : List Label) → may_be_beside x ≡ true →
      IsSplit alphabet names x labels → AllBeside labels
  item_beside (item.Literal text) labels h s =
      subst AllBeside (sym s.2) (cut_beside fold_label fold_beside s.0)
  item_beside (item.Quoted text) labels h s =
      subst AllBeside (sym s.2) (cut_beside exact_label exact_beside s.0)
  item_beside item.NoSpace labels h s = subst AllBeside (sym s) (one_beside NoSpace tt)
  item_beside item.Empty labels h s = subst AllBeside (sym s) (one_beside Empty tt)
  item_beside (item.Call name) labels h s = absurd cc
  item_beside (item.Mask text) labels h s = subst AllBeside (sym s.2) (one_beside (Mask s.0) tt)
  item_beside (item.Brace text) labels h s = subst AllBeside (sym s) (one_beside (Brace text) tt)
  item_beside (item.Begin name) labels h s = absurd cc
  item_beside (item.End name) labels h s = absurd cc
  item_beside item.Positive labels h s = absurd cc
  item_beside item.Negative labels h s = absurd cc
  item_beside item.ContextEnd labels h s = absurd cc
  item_beside item.Cut labels h s = absurd cc

  line_beside : (line : List Item) (labels : List Label) →
      All (λ (x : Item). may_be_beside x ≡ true) line → IsSplitLine alphabet names line labels →
      AllBeside labels
  line_beside [] labels h s = subst AllBeside (sym s) (All-nil MayBeBeside)
  line_beside (x ∷ xs) labels h s =
      let here : may_be_beside x ≡ true = h 0 x (omega arith) in
      let later : All (λ (x : Item). may_be_beside x ≡ true) xs =
      All-tail (λ (x : Item). may_be_beside x ≡ true) x xs h in
      subst AllBeside (sym s.4)
      (All-append MayBeBeside s.0 s.1 (item_beside x s.0 here s.2)
      (line_beside xs s.1 later s.3))

  -- a line that is filled is fit
  line_fit : (line : List Item) (labels : List Label) → IsFilled line →
      IsSplitLine alphabet names line labels → IsFitLine (length names) labels
  line_fit line labels filled s = elim filled.shared [
    | inl one ↦ alone line labels one filled.texts s
    | inr all ↦
        let beside = line_beside line labels all s in
        plain_fit (length names) labels (some line labels filled.some filled.texts s)
        (calls_none labels beside) (λ more. marks_none labels beside)
  ]
    where
      some : (line : List Item) (labels : List Label) → 0 < length line → All HasText line →
          IsSplitLine alphabet names line labels → 0 < length labels
      some [] labels h texts s = absurd (omega (arith, h))
      some (x ∷ xs) labels h texts s =
          let here = item_some x s.0 (texts 0 x (omega arith)) s.2 in
          rw s.4 (rw (length-append s.0 s.1) (omega (arith, here)))

      no_more : (x : Item) (labels front back : List Label) → back ≡ [] → labels ≡ front ++ back →
          labels ≡ front
      no_more x labels front back none is =
          is ∙ (ap (λ (l : List Label). front ++ l) none ∙ append-nil front)

      called : (name : List ℕ) (labels : List Label) → IsSplit alphabet names (item.Call name)
          labels →
          IsFitLine (length names) labels
      called name labels s =
          let within = slice_get_within names s.0 name s.1 in
          call_fit (length names) (s.0 + 1) labels s.2 (omega arith) (omega (arith, within))

      plain : (x : Item) (labels : List Label) → HasText x → may_be_beside x ≡ true →
          IsSplit alphabet names x labels → IsFitLine (length names) labels
      plain x labels text may s =
          let beside = item_beside x labels may s in
          plain_fit (length names) labels (item_some x labels text s)
          (calls_none labels beside) (λ more. marks_none labels beside)

      lone : (x : Label) (labels : List Label) → labels ≡ x ∷ [] → is_call x ≡ false →
          IsFitLine (length names) labels
      lone x labels s calls = plain_fit (length names) labels (rw s (omega arith))
          (subst NoCall (sym s) (one_none x calls))
          (λ more. absurd (let e = ap (λ (l : List Label). length l) s in omega (arith, more, e)))

      single : (x : Item) (labels : List Label) → HasText x → IsSplit alphabet names x labels →
          IsFitLine (length names) labels
      single (item.Literal text) labels h s = plain (item.Literal text) labels h refl s
      single (item.Quoted text) labels h s = plain (item.Quoted text) labels h refl s
      single item.NoSpace labels h s = plain item.NoSpace labels h refl s
      single item.Empty labels h s = plain item.Empty labels h refl s
      single (item.Call name) labels h s = called name labels s
      single (item.Mask text) labels h s = lone (Mask s.0) labels s.2 refl
      single (item.Brace text) labels h s = lone (Brace text) labels s refl
      single (item.Begin name) labels h s = lone (Begin name) labels s refl
      single (item.End name) labels h s = lone (End name) labels s refl
      single item.Positive labels h s = lone Positive labels s refl
      single item.Negative labels h s = lone Negative labels s refl
      single item.ContextEnd labels h s = lone ContextEnd labels s refl
      single item.Cut labels h s = lone Cut labels s refl

      alone : (line : List Item) (labels : List Label) → length line ≡ 1 → All HasText line →
          IsSplitLine alphabet names line labels → IsFitLine (length names) labels
      alone [] labels one texts s = absurd (omega (arith, one))
      alone (x ∷ y ∷ ys) labels one texts s = absurd (omega (arith, one))
      alone (x ∷ []) labels one texts s =
          subst (IsFitLine (length names)) (sym (no_more x labels s.0 s.1 s.3 s.4))
          (single x s.0 (texts 0 x (omega arith)) s.2)

  -- the lines of a box that are filled are fit
  lines_fit : (lines : List (List Item)) (split : List (List Label)) → All IsFilled lines →
      AllZip (IsSplitLine alphabet names) lines split → All (IsFitLine (length names)) split
  lines_fit [] [] filled zip = All-nil (IsFitLine (length names))
  lines_fit [] (s ∷ split) filled zip = absurd zip
  lines_fit (l ∷ lines) [] filled zip = absurd zip
  lines_fit (l ∷ lines) (s ∷ split) filled zip =
      All-cons (IsFitLine (length names)) s split
      (line_fit l s (filled 0 l (omega arith)) zip.0)
      (lines_fit lines split (All-tail IsFilled l lines filled) zip.1)

-- two lists of which each element fits its partner are as long
zip_len : {A B : Type 0} (R : A → B → Type 0) (xs : List A) (ys : List B) → AllZip R xs ys →
    length xs ≡ length ys
zip_len R [] [] z = refl
zip_len R [] (y ∷ ys) z = absurd z
zip_len R (x ∷ xs) [] z = absurd z
zip_len R (x ∷ xs) (y ∷ ys) z = let l = zip_len R xs ys z.1 in omega (arith, l)

-- lists that tell the same at each place are the same
same_rows : (places : List Place) (boxes : List GrfBox) → length places ≡ length boxes →
    ((n : ℕ) → targets_in (slice_get places n) ≡ box_targets_in (slice_get boxes n)) →
    map (λ (place : Place). place.targets) places ≡ map (λ (b : GrfBox). b.targets) boxes
same_rows [] [] len same = refl
same_rows [] (b ∷ boxes) len same = absurd (omega (arith, len))
same_rows (p ∷ places) [] len same = absurd (omega (arith, len))
same_rows (p ∷ places) (b ∷ boxes) len same =
    let rest = same_rows places boxes (omega (arith, len)) (λ n. same (suc n)) in
    ap (λ (row : List ℕ). row ∷ map (λ (place : Place). place.targets) places) (same 0)
    ∙ ap (λ (rows : List (List ℕ)). b.targets ∷ rows) rest

zip_none : {A B : Type 0} (R : A → B → Type 0) (xs : List A) (ys : List B) → xs ≡ [] →
    AllZip R xs ys → ys ≡ []
zip_none R [] [] e z = refl
zip_none R [] (y ∷ ys) e z = absurd z
zip_none R (x ∷ xs) ys e z = absurd (let l = ap (λ l. length l) e in omega (arith, l))

-- box 0's one line has one empty label
start_split : (alphabet : Letters) (names : List (List ℕ)) (split : List (List Label)) →
    AllZip (IsSplitLine alphabet names) ((item.Empty ∷ []) ∷ []) split → split ≡ (Empty ∷ []) ∷ []
start_split alphabet names [] z = absurd z
start_split alphabet names (l ∷ m ∷ split) z = absurd z.1
start_split alphabet names (l ∷ []) z =
    ap (λ (x : List Label). x ∷ []) (z.0.4 ∙ (ap (λ (f : List Label). f ++ z.0.1) z.0.2
    ∙ ap (λ (b : List Label). Empty ∷ b) z.0.3))

module _ (alphabet : Letters) (names : List (List ℕ)) (graph : Graph) (places : List Place)
    (wf : IsWellFormed graph) (are : ArePlaces alphabet names graph.boxes places) where
  -- a box that is there is a well formed one
  box_there : (n : ℕ) (b : GrfBox) → slice_get graph.boxes n ≡ Some b →
      (n < length graph.boxes) × IsWellFormedBox (length graph.boxes) n b
      × (is_reached places n ≡ b.reached) × (box_of_graph graph n ≡ b)
  box_there n b at =
      let within = slice_get_within graph.boxes n b at in
      let same : box_of_graph graph n ≡ b = get_or_from_slice_get graph.boxes n b _ at in (
        within,
        subst (IsWellFormedBox (length graph.boxes) n) same (wf.boxes n within),
        are.reached n ∙ ap box_reached_in at,
        same,
      )

  start_reached : is_reached places 0 ≡ true
  start_reached = elim (slice_get_cases graph.boxes 0).1 [
    | inl h ↦
        let b = box_there 0 h.0 h.2 in
        b.2 ∙ (ap (λ (x : GrfBox). x.reached) (sym b.3) ∙ (wf.reached 0 h.1).1 start)
    | inr past ↦ let two = wf.two in let none = past.0 in absurd (omega arith)
  ]

  bare : (n : ℕ) → (n ≡ 1) ⊎ (is_reached places n ≡ false) → label_lines places n ≡ []
  bare zero (inl one) = absurd (omega (arith, one))
  bare zero (inr off) = let on = start_reached in absurd cc
  bare (suc zero) h = zip_none (IsSplitLine alphabet names) [] (label_lines places 1) refl
      (are.lines 1)
  bare (suc (suc n)) (inl one) = absurd (omega (arith, one))
  bare (suc (suc n)) (inr off) =
      zip_none (IsSplitLine alphabet names) (lines_at graph.boxes (suc (suc n)))
      (label_lines places (suc (suc n))) (none (slice_get_cases graph.boxes (suc (suc n))).1)
      (are.lines (suc (suc n)))
    where
      none : ((b : GrfBox) × (suc (suc n) < length graph.boxes)
          × (slice_get graph.boxes (suc (suc n)) ≡ Some b)
          × (get_or graph.boxes (suc (suc n)) b ≡ b))
          ⊎ ((length graph.boxes ≤ suc (suc n)) × (slice_get graph.boxes (suc (suc n)) ≡ None)) →
          lines_at graph.boxes (suc (suc n)) ≡ []
      none (inl h) =
          let b = box_there (suc (suc n)) h.0 h.2 in
          let off_here : h.0.reached ≡ false = sym b.2 ∙ off in
          ap box_lines_in h.2 ∙ (b.1.bare (rw off_here refl)).0
      none (inr past) = ap box_lines_in past.1

  lined : (n : ℕ) → is_reached places n ≡ true → n ≢ 1 → 0 < length (label_lines places n)
  lined zero on not_one =
      let one = start_split alphabet names (label_lines places 0) (are.lines 0) in
      rw one (omega arith)
  lined (suc zero) on not_one = absurd (not_one refl)
  lined (suc (suc n)) on not_one = some (slice_get_cases graph.boxes (suc (suc n))).1
    where
      some : ((b : GrfBox) × (suc (suc n) < length graph.boxes)
          × (slice_get graph.boxes (suc (suc n)) ≡ Some b)
          × (get_or graph.boxes (suc (suc n)) b ≡ b))
          ⊎ ((length graph.boxes ≤ suc (suc n)) × (slice_get graph.boxes (suc (suc n)) ≡ None)) →
          0 < length (label_lines places (suc (suc n)))
      some (inl h) =
          let b = box_there (suc (suc n)) h.0 h.2 in
          let on_here : h.0.reached ≡ true = sym b.2 ∙ on in
          let lines = b.1.lined (rw on_here (lt-ltb 1 (suc (suc n)) (omega arith))) in
          let len = zip_len (IsSplitLine alphabet names) (lines_at graph.boxes (suc (suc n)))
          (label_lines places (suc (suc n))) (are.lines (suc (suc n))) in
          let same = ap (λ o. length (box_lines_in o)) h.2 in
          omega (arith, lines, len, same)
      some (inr past) =
          let off = are.reached (suc (suc n)) ∙ ap box_reached_in past.1 in absurd cc

  all_lines : (n : ℕ) → All (IsFitLine (length names)) (label_lines places n)
  all_lines zero =
      let one = start_split alphabet names (label_lines places 0) (are.lines 0) in
      subst (All (IsFitLine (length names))) (sym one)
      (All-cons (IsFitLine (length names)) (Empty ∷ []) []
      (plain_fit (length names) (Empty ∷ []) (omega arith) (one_none Empty refl)
      (λ more. absurd (omega (arith, more))))
      (All-nil (IsFitLine (length names))))
  all_lines (suc zero) =
      let none = bare 1 (inl refl) in
      subst (All (IsFitLine (length names))) (sym none) (All-nil (IsFitLine (length names)))
  all_lines (suc (suc n)) =
      lines_fit alphabet names (lines_at graph.boxes (suc (suc n)))
      (label_lines places (suc (suc n))) (filled (slice_get_cases graph.boxes (suc (suc n))).1)
      (are.lines (suc (suc n)))
    where
      filled : ((b : GrfBox) × (suc (suc n) < length graph.boxes)
          × (slice_get graph.boxes (suc (suc n)) ≡ Some b)
          × (get_or graph.boxes (suc (suc n)) b ≡ b))
          ⊎ ((length graph.boxes ≤ suc (suc n)) × (slice_get graph.boxes (suc (suc n)) ≡ None)) →
          All IsFilled (lines_at graph.boxes (suc (suc n)))
      filled (inl h) =
          let b = box_there (suc (suc n)) h.0 h.2 in
          subst (All IsFilled) (sym (ap box_lines_in h.2)) b.1.filled
      filled (inr past) = subst (All IsFilled) (sym (ap box_lines_in past.1)) (All-nil IsFilled)

  pub inside : HasTargetsInside places
  inside a b has =
      by (slice_get_cases graph.boxes a).1 (subst (λ (l : List ℕ). Contains l b) (are.targets a)
      has)
    where
      by : ((x : GrfBox) × (a < length graph.boxes) × (slice_get graph.boxes a ≡ Some x)
          × (get_or graph.boxes a x ≡ x))
          ⊎ ((length graph.boxes ≤ a) × (slice_get graph.boxes a ≡ None)) →
          Contains (targets_at graph.boxes a) b → b < length places
      by (inl h) has =
          let x = box_there a h.0 h.2 in
          let here : Contains h.0.targets b =
          subst (λ (l : List ℕ). Contains l b) (ap box_targets_in h.2) has in
          let below = All-contains (λ t. t < length graph.boxes) h.0.targets b x.1.inside here in
          let len = are.len in omega arith
      by (inr past) has =
          let here : Contains [] b =
          subst (λ (l : List ℕ). Contains l b) (ap box_targets_in past.1) has in
          let low = here.1 in absurd (omega arith)

  fit : IsFit (length names) places
  fit = record {
    two = let two = wf.two in let len = are.len in omega arith;
    start = start_split alphabet names (label_lines places 0) (are.lines 0);
    lines = all_lines;
    inside = inside;
  }

  has_lines : HasLinesWhereReached places
  has_lines = record {
    bare = bare;
    lined = lined;
    reached = λ n within. reached n (subst (λ m. n < m) are.len within);
  }
    where
      rows : place_ways places ≡ ways_of_graph graph
      rows = ap ways_of (same_rows places graph.boxes are.len are.targets)

      reached : (n : ℕ) → n < length graph.boxes →
          (is_reached places n ≡ true) ↔ Reached (place_ways places) n
      reached n within =
          let same : is_reached places n ≡ (box_of_graph graph n).reached =
          by (slice_get_cases graph.boxes n).1 in
          let told = wf.reached n within in (
            λ h. subst (λ (w : List (List ℕ)). Reached w n) (sym rows) (told.0 (sym same ∙ h)),
            λ r. same ∙ told.1 (subst (λ (w : List (List ℕ)). Reached w n) rows r),
          )
        where
          by : ((x : GrfBox) × (n < length graph.boxes) × (slice_get graph.boxes n ≡ Some x)
              × (get_or graph.boxes n x ≡ x))
              ⊎ ((length graph.boxes ≤ n) × (slice_get graph.boxes n ≡ None)) →
              is_reached places n ≡ (box_of_graph graph n).reached
          by (inl h) =
              let x = box_there n h.0 h.2 in x.2 ∙ ap (λ (b : GrfBox). b.reached) (sym x.3)
          by (inr past) = let past = past.0 in absurd (omega arith)

-- the places of a graph
pub graph_fit : (alphabet : Letters) (names : List (List ℕ)) (graph : Graph)
    (places : List Place) → IsWellFormed graph →
    ArePlaces alphabet names graph.boxes places → IsFit (length names) places
graph_fit alphabet names graph places wf are = fit alphabet names graph places wf are

pub graph_has_lines : (alphabet : Letters) (names : List (List ℕ)) (graph : Graph)
    (places : List Place) → IsWellFormed graph →
    ArePlaces alphabet names graph.boxes places → HasLinesWhereReached places
graph_has_lines alphabet names graph places wf are =
    has_lines alphabet names graph places wf are
