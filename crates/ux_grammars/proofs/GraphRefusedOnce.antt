-- A text that draws no graph is refused for one error.
use Rattle.std.proofs.Common.{arith, ◌≡◌, ◌≢◌, inl, inr, ℕ, ◌<◌, List, ◌∷◌, true, false, Option, Some, None, refl, sym, ap, ◌∙◌, subst}
use Rattle.std.proofs.lemmas.Bool.{both_ways, cases_order}
use Rattle.std.proofs.lemmas.Option.{none-some, same_Some}
use Rattle.ux_grf.specs.declared.graph.GraphKind.{GraphKind}
use Rattle.ux_grf.specs.declared.error.GrfError.{GrfError}
use Rattle.ux_grf.specs.declared.error.GrfError.TheVariants.{NoHeader, BadCount, BadBoxLine, BadTarget, BadContent, NoMemory}
use Rattle.ux_grf.specs.BoxLine.{BoxText}
use Rattle.ux_grf.specs.Boxes.{box_at, text_at, is_good, AreGood, HasBadTarget}
use Rattle.ux_grf.specs.Content.{content_of}
use Rattle.ux_grf.specs.File.{HasBoxLines, HasTexts, IsFirstBad, Refuses, count_at}
use Rattle.ux_grf.proofs.TextsLemmas.{HasTexts-once, count_same, lines_same}
use Rattle.ux_grf.proofs.UniqueLemmas.{IsBadAt-once, IsContent-IsFault}

-- no line is good that is no box line
none_bad : (count : ℕ) (box : Option BoxText) → box ≡ None → is_good count box ≡ false
none_bad count box none = subst (λ (b : Option BoxText). is_good count b ≡ false) (sym none) refl

-- nor is one with a bad target
target_bad : (count : ℕ) (box : Option BoxText) → HasBadTarget count box → is_good count box ≡ false
target_bad count None bad = absurd bad
target_bad count (Some text) bad = bad

no_target : (count : ℕ) (box : Option BoxText) → box ≡ None → HasBadTarget count box → ⊥
no_target count None none bad = bad
no_target count (Some text) none bad = none-some text (sym none)

-- the first bad box line of the text is that of this box
record IsFirstBadLine (text : List ℕ) (node : ℕ) : Type 0 where
  count : ℕ
  lines : List (List ℕ)
  has : HasBoxLines text count lines
  inside : node < count
  before : AreGood count lines node
  bad : is_good count (box_at lines node) ≡ false

-- Graphs of any kind.
module _ (kind : GraphKind) where
  module _ (text : List ℕ) where
    -- no text lacks a header and has box lines
    no_header : {count : ℕ} {lines : List (List ℕ)} → Refuses kind text NoHeader →
        HasBoxLines text count lines → ⊥
    no_header {count} {lines} refused has = none-some (has.first ∷ lines) (sym refused ∙ has.header)

    -- nor tells no number of boxes and has box lines
    no_count : {count : ℕ} {lines : List (List ℕ)} → Refuses kind text BadCount →
        HasBoxLines text count lines → ⊥
    no_count {count} {lines} refused has =
        let same = same_Some refused.0 (has.first ∷ lines) (sym refused.1 ∙ has.header) in
        none-some count (sym refused.2 ∙ (ap count_at same ∙ has.told))

    -- each refusal by a box line is by the first bad one
    line_bad : (node : ℕ) → Refuses kind text (BadBoxLine node) → IsFirstBadLine text node
    line_bad node refused = record {
      count = refused.0;
      lines = refused.1;
      has = refused.2;
      inside = refused.3.0;
      before = refused.3.1;
      bad = none_bad refused.0 (box_at refused.1 node) refused.3.2;
    }

    target_line_bad : (node : ℕ) → Refuses kind text (BadTarget node) → IsFirstBadLine text node
    target_line_bad node refused = record {
      count = refused.0;
      lines = refused.1;
      has = refused.2;
      inside = refused.3.0;
      before = refused.3.1;
      bad = target_bad refused.0 (box_at refused.1 node) refused.3.2;
    }

    -- the line that is bad first isn't good
    good_at : (node count : ℕ) (lines : List (List ℕ)) (one : IsFirstBadLine text node) →
        HasBoxLines text count lines → is_good count (box_at lines node) ≡ true → ⊥
    good_at node count lines one has good =
        let counts = count_same text one.count count one.lines lines one.has has in
        let same = lines_same text one.count count one.lines lines one.has has in
        both_ways (is_good one.count (box_at one.lines node)) one.bad
        (subst (λ (ls : List (List ℕ)). is_good one.count (box_at ls node) ≡ true) same
        (subst (λ (n : ℕ). is_good n (box_at lines node) ≡ true) counts good))

    -- one box has the first bad line
    one_line : (node other : ℕ) → IsFirstBadLine text node → IsFirstBadLine text other → node ≡ other
    one_line node other one also = elim (cases_order node other) [
      | inl same ↦ same
      | inr (inl low) ↦ absurd (good_at node also.count also.lines one also.has (also.before node low))
      | inr (inr low) ↦ absurd (good_at other one.count one.lines also one.has (one.before other low))
    ]

    -- a line that is no box line has no bad target
    no_line_target : (node : ℕ) → Refuses kind text (BadBoxLine node) → Refuses kind text (BadTarget node) → ⊥
    no_line_target node one other =
        let counts = count_same text one.0 other.0 one.1 other.1 one.2 other.2 in
        let same = lines_same text one.0 other.0 one.1 other.1 one.2 other.2 in
        let bad : HasBadTarget one.0 (box_at one.1 node) =
        subst (λ (ls : List (List ℕ)). HasBadTarget one.0 (box_at ls node)) same
        (subst (λ (n : ℕ). HasBadTarget n (box_at other.1 node)) counts other.3.2) in
        no_target one.0 (box_at one.1 node) one.3.2 bad

    -- where all box lines are good, none is bad
    no_bad_line : (node : ℕ) (texts : List BoxText) → IsFirstBadLine text node → HasTexts text texts → ⊥
    no_bad_line node texts one has =
        let inside : node < has.count =
        subst (λ (n : ℕ). node < n) (count_same text has.count one.count has.lines one.lines has.has
        one.has) one.inside in
        good_at node has.count has.lines one has.has (has.good node inside)

  -- of two boxes with a bad content, the later isn't the first
  not_first : (texts : List BoxText) (node place other at : ℕ) → IsFirstBad kind texts node place →
      IsFirstBad kind texts other at → node < other → ⊥
  not_first texts node place other at one also low =
      let read = also.first node low one.box in
      IsContent-IsFault (content_of (text_at texts node)) one.bad.left read.0 read.1 one.bad.fault

  -- so one is, and it is bad at one place
  one_content : (texts : List BoxText) (node place other at : ℕ) → IsFirstBad kind texts node place →
      IsFirstBad kind texts other at → BadContent node place ≡ BadContent other at
  one_content texts node place other at one also = elim (cases_order node other) [
    | inl same ↦
        let bad = subst (λ (n : ℕ). IsFirstBad kind texts n place) same one in
        let places = IsBadAt-once (content_of (text_at texts other)) place at bad.bad also.bad in
        ap (λ (n : ℕ). BadContent n place) same ∙ ap (BadContent other) places
    | inr (inl low) ↦ absurd (not_first texts node place other at one also low)
    | inr (inr low) ↦ absurd (not_first texts other at node place also one low)
  ]

  -- the tests in their order: of the header, of the number, of the box lines and of the contents
  abbrev step : GrfError → ℕ
  step NoHeader = 0
  step BadCount = 1
  step (BadBoxLine node) = 2
  step (BadTarget node) = 2
  step (BadContent node place) = 3
  step NoMemory = 4

  -- a text that a test refuses isn't refused by a later one
  not_later : (text : List ℕ) (e f : GrfError) → f ≢ NoMemory → step e < step f →
      Refuses kind text e → Refuses kind text f → ⊥
  not_later text NoHeader BadCount some low r s = none-some s.0 (sym r ∙ s.1)
  not_later text NoHeader (BadBoxLine m) some low r s = no_header text r s.2
  not_later text NoHeader (BadTarget m) some low r s = no_header text r s.2
  not_later text NoHeader (BadContent m at) some low r s = no_header text r s.1.has
  not_later text BadCount (BadBoxLine m) some low r s = no_count text r s.2
  not_later text BadCount (BadTarget m) some low r s = no_count text r s.2
  not_later text BadCount (BadContent m at) some low r s = no_count text r s.1.has
  not_later text (BadBoxLine n) (BadContent m at) some low r s =
      no_bad_line text n s.0 (line_bad text n r) s.1
  not_later text (BadTarget n) (BadContent m at) some low r s =
      no_bad_line text n s.0 (target_line_bad text n r) s.1
  not_later text e NoMemory some low r s = some refl
  not_later text e f some low r s = omega (arith, low)

  -- a test refuses it for one error
  same_step : (text : List ℕ) (e f : GrfError) → e ≢ NoMemory → f ≢ NoMemory → step e ≡ step f →
      Refuses kind text e → Refuses kind text f → e ≡ f
  same_step text NoHeader NoHeader some also same r s = refl
  same_step text BadCount BadCount some also same r s = refl
  same_step text (BadBoxLine n) (BadBoxLine m) some also same r s =
      ap BadBoxLine (one_line text n m (line_bad text n r) (line_bad text m s))
  same_step text (BadBoxLine n) (BadTarget m) some also same r s =
      let one = one_line text n m (line_bad text n r) (target_line_bad text m s) in
      absurd (no_line_target text m (subst (λ (k : ℕ). Refuses kind text (BadBoxLine k)) one r) s)
  same_step text (BadTarget n) (BadBoxLine m) some also same r s =
      let one = one_line text m n (line_bad text m s) (target_line_bad text n r) in
      absurd (no_line_target text n (subst (λ (k : ℕ). Refuses kind text (BadBoxLine k)) one s) r)
  same_step text (BadTarget n) (BadTarget m) some also same r s =
      ap BadTarget (one_line text n m (target_line_bad text n r) (target_line_bad text m s))
  same_step text (BadContent n place) (BadContent m at) some also same r s =
      one_content r.0 n place m at r.2 (subst (λ (ts : List BoxText). IsFirstBad kind ts m at)
      (HasTexts-once text s.0 r.0 s.1 r.1) s.2)
  same_step text NoMemory f some also same r s = absurd (some refl)
  same_step text e NoMemory some also same r s = absurd (also refl)
  same_step text e f some also same r s = absurd (omega (arith, same))

  -- a text is refused for one error, want of memory aside
  pub graph_refused_once : (text : List ℕ) (e f : GrfError) → e ≢ NoMemory → f ≢ NoMemory →
      Refuses kind text e → Refuses kind text f → e ≡ f
  graph_refused_once text e f some also r s = elim (cases_order (step e) (step f)) [
    | inl same ↦ same_step text e f some also same r s
    | inr (inl low) ↦ absurd (not_later text e f also low r s)
    | inr (inr low) ↦ absurd (not_later text f e some low s r)
  ]
