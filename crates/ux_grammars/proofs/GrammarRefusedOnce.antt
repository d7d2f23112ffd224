-- A grammar that is not compiled is refused for one error, which names one file.
use Rattle.std.proofs.Common.{arith, ◌≡◌, ◌≢◌, ◌⊎◌, inl, inr, ℕ, zero, suc, ◌<◌, List, Some, sym, ap, ◌∙◌, subst, refl}
use Rattle.std.specs.Prelude.{Contains, slice_get}
use Rattle.std.proofs.lemmas.Bool.{cases_order}
use Rattle.std.proofs.lemmas.Option.{get_or_from_slice_get, same_Some, slice_get_within}
use Rattle.ux_alphabet.specs.Letters.{Letters}
use Rattle.ux_boxes.specs.Refusing.{IsFirst, AreMasked, AreWhole, HasBadMask, IsFirstAmong, IsFirstBadMask, IsFirstMissing, calls_in, is_name_at, mask_texts_at}
use Rattle.ux_boxes.specs.Boxes.{Drawn, names_of}
use Rattle.ux_boxes.specs.MaskTexts.{HaveMasks, IsFirstBad}
use Rattle.ux_compile.specs.Refusing.{Refuses}
use Rattle.ux_boxes.specs.declared.error.NetError.{NetError}
use Rattle.ux_boxes.specs.declared.error.NetError.TheVariants.{MissingGraph, BadMask, ContextClose, NegativeRecursion, EmptyLoop, LeftRecursion, NoMemory}
use Rattle.ux_boxes.proofs.MaskTextsLemmas.{HasBadText, no_box_bad, none_bad}
use Rattle.ux_boxes.proofs.RefusingLemmas.{good_none}
use Rattle.ux_grammars.specs.Graphs.{NamesFile}
use Rattle.ux_grammars.proofs.MaskRefusedOnce.{first_place}

-- THE FIRST GRAPH, AND ITS FIRST NODE

module _ (IsSo : (g node : ℕ) → Type 0) where
  -- one graph is the first of which some node is so
  first_graph : (g node h other : ℕ) → IsFirst IsSo g node → IsFirst IsSo h other → g ≡ h
  first_graph g node h other one also = elim (cases_order g h) [
    | inl same ↦ same
    | inr (inl low) ↦ absurd (also.first g node low one.here)
    | inr (inr low) ↦ absurd (one.first h other low also.here)
  ]

  -- and one is its least such node
  least_node : (g node other : ℕ) → IsFirst IsSo g node → IsFirst IsSo g other → node ≡ other
  least_node g node other one also = elim (cases_order node other) [
    | inl same ↦ same
    | inr (inl low) ↦ absurd (also.least node low one.here)
    | inr (inr low) ↦ absurd (one.least other low also.here)
  ]

-- a number is that of one name
pub one_name : (names : List (List ℕ)) (g : ℕ) (name other : List ℕ) → is_name_at names g name →
    is_name_at names g other → name ≡ other
one_name names zero name other at also = absurd at
one_name names (suc n) name other at also = same_Some name other (sym at ∙ also)

-- so the first graph has one name, and the same node is named with it
pub first_named : {E : Type 0} (names : List (List ℕ)) (IsSo : (g node : ℕ) → Type 0)
    (kind : List ℕ → ℕ → E) (name other : List ℕ) (node place : ℕ) → IsFirstAmong names IsSo name node →
    IsFirstAmong names IsSo other place → kind name node ≡ kind other place
first_named names IsSo kind name other node place one also =
    let graphs = first_graph IsSo one.0 node also.0 place one.2 also.2 in
    let here = subst (λ (g : ℕ). IsFirst IsSo g node) graphs one.2 in
    let nodes = least_node IsSo also.0 node place here also.2 in
    let named = one_name names also.0 name other
    (subst (λ (g : ℕ). is_name_at names g name) graphs one.1) also.1 in
    ap (λ (x : List ℕ). kind x node) named ∙ ap (λ (n : ℕ). kind other n) nodes

-- EACH TEST

module _ (graphs : List Drawn) where
  called : (n k : ℕ) (name : List ℕ) → slice_get (calls_in (slice_get graphs n)) k ≡ Some name →
      Contains (calls_in (slice_get graphs n)) name
  called n k name at = (
    k,
    slice_get_within (calls_in (slice_get graphs n)) k name at,
    get_or_from_slice_get (calls_in (slice_get graphs n)) k name name at,
  )

  -- where each graph that is called is there, none is missing
  not_missing : (name : List ℕ) → AreWhole graphs → IsFirstMissing graphs name → ⊥
  not_missing name whole one = one.missing (whole one.n name (called one.n one.k name one.called))

  earlier_graph : (name other : List ℕ) (one : IsFirstMissing graphs name)
      (also : IsFirstMissing graphs other) → one.n < also.n → ⊥
  earlier_graph name other one also low =
      one.missing (also.earlier one.n low name (called one.n one.k name one.called))

  earlier_call : (name other : List ℕ) (one : IsFirstMissing graphs name)
      (also : IsFirstMissing graphs other) → one.n ≡ also.n → one.k < also.k → ⊥
  earlier_call name other one also same low =
      one.missing (also.before one.k name low
      (subst (λ (n : ℕ). slice_get (calls_in (slice_get graphs n)) one.k ≡ Some name) same one.called))

  -- one name is the first that is called and that no graph has
  one_missing : (name other : List ℕ) → IsFirstMissing graphs name → IsFirstMissing graphs other →
      name ≡ other
  one_missing name other one also = elim (cases_order one.n also.n) [
    | inl same ↦ elim (cases_order one.k also.k) [
      | inl place ↦ same_Some name other (sym (subst (λ (k : ℕ).
          slice_get (calls_in (slice_get graphs also.n)) k ≡ Some name) place
          (subst (λ (n : ℕ). slice_get (calls_in (slice_get graphs n)) one.k ≡ Some name) same
          one.called)) ∙ also.called)
      | inr (inl low) ↦ absurd (earlier_call name other one also same low)
      | inr (inr low) ↦ absurd (earlier_call other name also one (sym same) low)
    ]
    | inr (inl low) ↦ absurd (earlier_graph name other one also low)
    | inr (inr low) ↦ absurd (earlier_graph other name also one low)
  ]

  -- where each mask text is a mask's, none is bad
  not_bad : (name : List ℕ) (node place : ℕ) → AreMasked graphs →
      IsFirstBadMask graphs name node place → ⊥
  not_bad name node place masked one =
      good_none HaveMasks HasBadText none_bad no_box_bad graphs masked one.0 node one.2.here

  -- one mask text is the first that is no mask's
  one_bad : (name other : List ℕ) (node n place at : ℕ) → IsFirstBadMask graphs name node place →
      IsFirstBadMask graphs other n at → BadMask name node place ≡ BadMask other n at
  one_bad name other node n place at one also =
      let first = first_graph (HasBadMask graphs) one.0 node also.0 n one.2 also.2 in
      let nodes = least_node (HasBadMask graphs) also.0 node n
      (subst (λ (g : ℕ). IsFirst (HasBadMask graphs) g node) first one.2) also.2 in
      let named = one_name (names_of graphs) also.0 name other
      (subst (λ (g : ℕ). is_name_at (names_of graphs) g name) first one.1) also.1 in
      let bad = subst (λ (m : ℕ). IsFirstBad (mask_texts_at graphs also.0 m) place) nodes
      (subst (λ (g : ℕ). IsFirstBad (mask_texts_at graphs g node) place) first one.3) in
      let places = first_place (mask_texts_at graphs also.0 n) place at bad also.3 in
      ap (λ (x : List ℕ). BadMask x node place) named
      ∙ (ap (λ (m : ℕ). BadMask other m place) nodes ∙ ap (BadMask other n) places)

-- THE TESTS IN THEIR ORDER

-- of calls, of masks, of contexts, of recursion by contexts, of loops and of recursion
abbrev pub step : NetError → ℕ
step (MissingGraph name) = 0
step (BadMask name node place) = 1
step (ContextClose name node) = 2
step (NegativeRecursion name) = 3
step (EmptyLoop name node) = 4
step (LeftRecursion name node) = 5
step NoMemory = 6

module _ (letters : Letters) (graphs : List Drawn) where
  -- graphs that a test refuses aren't refused by a later one
  not_later : (e f : NetError) → f ≢ NoMemory → step e < step f → Refuses letters graphs e →
      Refuses letters graphs f → ⊥
  not_later (MissingGraph x) (BadMask y m at) some low r s = not_missing graphs x s.0 r
  not_later (MissingGraph x) (ContextClose y m) some low r s = not_missing graphs x s.0 r
  not_later (MissingGraph x) (NegativeRecursion y) some low r s = not_missing graphs x s.0 r
  not_later (MissingGraph x) (EmptyLoop y m) some low r s = not_missing graphs x s.0 r
  not_later (MissingGraph x) (LeftRecursion y m) some low r s = not_missing graphs x s.0 r
  not_later (BadMask x n place) (ContextClose y m) some low r s = not_bad graphs x n place s.1 r.1
  not_later (BadMask x n place) (NegativeRecursion y) some low r s = not_bad graphs x n place s.1 r.1
  not_later (BadMask x n place) (EmptyLoop y m) some low r s = not_bad graphs x n place s.1 r.1
  not_later (BadMask x n place) (LeftRecursion y m) some low r s = not_bad graphs x n place s.1 r.1
  not_later (ContextClose x n) (NegativeRecursion y) some low r s = s.2 r.2.0 n r.2.2.here
  not_later (ContextClose x n) (EmptyLoop y m) some low r s = s.2.closed r.2.0 n r.2.2.here
  not_later (ContextClose x n) (LeftRecursion y m) some low r s = s.2.closed r.2.0 n r.2.2.here
  not_later (NegativeRecursion x) (EmptyLoop y m) some low r s = s.2.no_recursion r.3.0 r.3.2.here
  not_later (NegativeRecursion x) (LeftRecursion y m) some low r s =
      s.2.no_recursion r.3.0 r.3.2.here
  not_later (EmptyLoop x n) (LeftRecursion y m) some low r s = s.3 r.3.0 n r.3.2.here
  not_later e NoMemory some low r s = some refl
  not_later e f some low r s = omega (arith, low)

  -- a test refuses them for one error
  same_step : (e f : NetError) → e ≢ NoMemory → f ≢ NoMemory → step e ≡ step f →
      Refuses letters graphs e → Refuses letters graphs f → e ≡ f
  same_step (MissingGraph x) (MissingGraph y) some also same r s =
      ap MissingGraph (one_missing graphs x y r s)
  same_step (BadMask x n place) (BadMask y m at) some also same r s =
      one_bad graphs x y n m place at r.1 s.1
  same_step (ContextClose x n) (ContextClose y m) some also same r s =
      first_named (names_of graphs) _ ContextClose x y n m r.2 s.2
  same_step (NegativeRecursion x) (NegativeRecursion y) some also same r s =
      ap NegativeRecursion (by (cases_order r.3.0 s.3.0))
    where
      by : (r.3.0 ≡ s.3.0) ⊎ ((r.3.0 < s.3.0) ⊎ (s.3.0 < r.3.0)) → x ≡ y
      by (inl graph) =
          one_name (names_of graphs) s.3.0 x y
          (subst (λ (g : ℕ). is_name_at (names_of graphs) g x) graph r.3.1) s.3.1
      by (inr (inl low)) = absurd (s.3.2.least r.3.0 low r.3.2.here)
      by (inr (inr low)) = absurd (r.3.2.least s.3.0 low s.3.2.here)
  same_step (EmptyLoop x n) (EmptyLoop y m) some also same r s =
      first_named (names_of graphs) _ EmptyLoop x y n m r.3 s.3
  same_step (LeftRecursion x n) (LeftRecursion y m) some also same r s =
      first_named (names_of graphs) _ LeftRecursion x y n m r.4 s.4
  same_step NoMemory f some also same r s = absurd (some refl)
  same_step e NoMemory some also same r s = absurd (also refl)
  same_step e f some also same r s = absurd (omega (arith, same))

  -- graphs are refused for one error, want of memory aside
  pub net_refused_once : (e f : NetError) → e ≢ NoMemory → f ≢ NoMemory →
      Refuses letters graphs e → Refuses letters graphs f → e ≡ f
  net_refused_once e f some also r s = elim (cases_order (step e) (step f)) [
    | inl same ↦ same_step e f some also same r s
    | inr (inl low) ↦ absurd (not_later e f also low r s)
    | inr (inr low) ↦ absurd (not_later f e some low s r)
  ]

-- THE FILE

-- an error that names a file isn't want of memory
pub named_not_memory : (word file : List ℕ) (error : NetError) → NamesFile word error file →
    error ≢ NoMemory
named_not_memory word file error names is =
    let none : NamesFile word NoMemory file =
    subst (λ (e : NetError). NamesFile word e file) is names in
    none

-- it names one
pub named_once : (word file other : List ℕ) (error : NetError) → NamesFile word error file →
    NamesFile word error other → file ≡ other
named_once word file other (BadMask name node place) one also = one ∙ sym also
named_once word file other (ContextClose name node) one also = one ∙ sym also
named_once word file other (NegativeRecursion name) one also = one ∙ sym also
named_once word file other (EmptyLoop name node) one also = one ∙ sym also
named_once word file other (LeftRecursion name node) one also = one ∙ sym also
named_once word file other (MissingGraph name) one also = absurd one
named_once word file other NoMemory one also = absurd one

-- a grammar is refused for one error, at one file
pub grammar_error_once : (word : List ℕ) (letters : Letters) (graphs : List Drawn)
    (e f : NetError) (file other : List ℕ) → Refuses letters graphs e → NamesFile word e file →
    Refuses letters graphs f → NamesFile word f other → (e ≡ f) × (file ≡ other)
grammar_error_once word letters graphs e f file other r names s also =
    let errors = net_refused_once letters graphs e f (named_not_memory word file e names)
    (named_not_memory word other f also) r s in (
      errors,
      named_once word file other f (subst (λ (x : NetError). NamesFile word x file) errors names)
          also,
    )
