-- The labels of a line's edges say what the line says.
use Rattle.std.proofs.Common.{arith, ◌≡◌, ℕ, ◌+◌, ◌<◌, ◌≤◌, List, [], ◌∷◌, refl, sym, ◌∙◌, ap, subst, ◌⊎◌, inl, inr, length, get_or, true, false}
use Rattle.std.specs.Prelude.{Option, Some, None, Contains}
use Rattle.std.proofs.lemmas.Option.{same_Some}
use Rattle.std.proofs.lemmas.List.Elements.{All-head, All-contains}
use Rattle.ux_grf.specs.declared.item.Piece.{Piece}
use Rattle.ux_net.specs.declared.label.Label.{Label}
use Rattle.ux_net.specs.declared.label.Label.TheVariants.{Empty, CaseFolded, CaseExact, Mask, Brace, Space, NoSpace, Begin, End, Positive, Negative, ContextEnd, Cut, Call}
use Rattle.ux_net.specs.Words.{ordinary, mark_of, letters}
use Rattle.ux_boxes.specs.Fit.{is_call, is_mark, IsLine}
use Rattle.ux_compile.specs.Construct.{called_behind, edge_labels}
use Rattle.ux_base.proofs.Lists.{nothing_in, first_or_later, contains_first}

-- they have the letters of the line
pub same_letters : (called : Option ℕ) (line : List Label) →
    letters (edge_labels called line) ≡ letters line
same_letters None line = refl
same_letters (Some h) line = refl

-- each of them is one of the line's, or the empty word
pub each_label : (P : Label → Type 0) (called : Option ℕ) (line : List Label) → P Empty →
    ((x : Label) → Contains line x → P x) → (x : Label) → Contains (edge_labels called line) x → P x
each_label P None line empty each x there = each x there
each_label P (Some h) line empty each x there = elim (first_or_later Empty line x there) [
  | inl e ↦ subst P e empty
  | inr later ↦ each x later
]

-- there are as many, or one more
pub no_fewer : (called : Option ℕ) (line : List Label) →
    length line ≤ length (edge_labels called line)
no_fewer None line = omega arith
no_fewer (Some h) line = omega arith

pub one_more : (called : Option ℕ) (line : List Label) →
    length (edge_labels called line) ≤ length line + 1
one_more None line = omega arith
one_more (Some h) line = omega arith

-- a line with a call is nothing else
alone : (x : Label) (xs : List Label) → IsLine (x ∷ xs) → is_call x ≡ true → xs ≡ []
alone x [] line is = refl
alone x (y ∷ ys) line is =
    let no = All-head (λ (label : Label). is_call label ≡ false) x (y ∷ ys)
    (line.lone (omega arith)) in
    cc

-- what is called behind an output is all of its line
pub call_whole : (output : List Piece) (line : List Label) (h : ℕ) → IsLine line →
    called_behind output line ≡ Some h → line ≡ Call h ∷ []
call_whole [] line h is e = cc
call_whole (o ∷ os) [] h is e = cc
call_whole (o ∷ os) (Call g ∷ xs) h is e =
    ap (λ (l : List Label). Call g ∷ l) (alone (Call g) xs is refl)
    ∙ ap (λ n. Call n ∷ []) (same_Some g h e)
call_whole (o ∷ os) (Empty ∷ xs) h is e = cc
call_whole (o ∷ os) (CaseFolded text ∷ xs) h is e = cc
call_whole (o ∷ os) (CaseExact text ∷ xs) h is e = cc
call_whole (o ∷ os) (Mask mask ∷ xs) h is e = cc
call_whole (o ∷ os) (Brace text ∷ xs) h is e = cc
call_whole (o ∷ os) (Space ∷ xs) h is e = cc
call_whole (o ∷ os) (NoSpace ∷ xs) h is e = cc
call_whole (o ∷ os) (Begin name ∷ xs) h is e = cc
call_whole (o ∷ os) (End name ∷ xs) h is e = cc
call_whole (o ∷ os) (Positive ∷ xs) h is e = cc
call_whole (o ∷ os) (Negative ∷ xs) h is e = cc
call_whole (o ∷ os) (ContextEnd ∷ xs) h is e = cc
call_whole (o ∷ os) (Cut ∷ xs) h is e = cc

-- a label that is no mark neither opens nor closes a context
unmarked : (x : Label) → is_mark x ≡ false → mark_of (x ∷ []) ≡ ordinary
unmarked Positive h = cc
unmarked Negative h = cc
unmarked ContextEnd h = cc
unmarked x h = refl

-- nor does a line of several labels
several_ordinary : (x y : Label) (rest : List Label) → mark_of (x ∷ y ∷ rest) ≡ ordinary
several_ordinary Empty y rest = refl
several_ordinary x y rest = refl

-- each label of an ordinary line is ordinary
pub ordinary_labels : (line : List Label) → IsLine line → mark_of line ≡ ordinary → (x : Label) →
    Contains line x → mark_of (x ∷ []) ≡ ordinary
ordinary_labels [] is mark x there = absurd (nothing_in there)
ordinary_labels (y ∷ []) is mark x there = elim (first_or_later y [] x there) [
  | inl e ↦ subst (λ (z : Label). mark_of (z ∷ []) ≡ ordinary) e mark
  | inr later ↦ absurd (nothing_in later)
]
ordinary_labels (y ∷ z ∷ rest) is mark x there =
    unmarked x
    (All-contains (λ (label : Label). is_mark label ≡ false) (y ∷ z ∷ rest) x
    (is.marks (omega arith)) there)

-- The edges of a line, and what they do to contexts.
module _ (output : List Piece) (line : List Label) (is : IsLine line) where
  abbrev edges : List Label
  edges = edge_labels (called_behind output line) line

  -- it is a call behind an output, or its edges are those that are drawn
  called_or : ((h : ℕ) × (line ≡ Call h ∷ []) × (edges ≡ Empty ∷ Call h ∷ [])) ⊎ (edges ≡ line)
  called_or = go (called_behind output line) refl
    where
      go : (called : Option ℕ) → called_behind output line ≡ called →
          ((h : ℕ) × (line ≡ Call h ∷ []) × (edges ≡ Empty ∷ Call h ∷ [])) ⊎ (edges ≡ line)
      go None e = inr (ap (λ (called : Option ℕ). edge_labels called line) e)
      go (Some h) e =
          let whole = call_whole output line h is e in
          inl (
            h,
            whole,
            ap (λ (called : Option ℕ). edge_labels called line) e
                ∙ ap (λ (l : List Label). Empty ∷ l) whole,
          )

  -- with several edges it is ordinary
  pub several_edges : 1 < length edges → mark_of line ≡ ordinary
  several_edges more = elim called_or [
    | inl c ↦ ap mark_of c.1
    | inr drawn ↦ go line (let e = ap (length {A = Label}) drawn in omega (arith, more, e))
  ]
    where
      go : (line : List Label) → 1 < length line → mark_of line ≡ ordinary
      go [] h = refl
      go (x ∷ []) h = absurd (omega (arith, h))
      go (x ∷ y ∷ rest) h = several_ordinary x y rest

  -- the first edge does to contexts what the line does
  pub first_edge : mark_of (get_or edges 0 Empty ∷ []) ≡ mark_of line
  first_edge = elim called_or [
    | inl c ↦
        ap (λ (l : List Label). mark_of (get_or l 0 Empty ∷ [])) c.2 ∙ sym (ap mark_of c.1)
    | inr drawn ↦
        ap (λ (l : List Label). mark_of (get_or l 0 Empty ∷ [])) drawn ∙ go line is
  ]
    where
      go : (line : List Label) → IsLine line →
          mark_of (get_or line 0 Empty ∷ []) ≡ mark_of line
      go [] is = refl
      go (x ∷ []) is = refl
      go (x ∷ y ∷ rest) is =
          ordinary_labels (x ∷ y ∷ rest) is (several_ordinary x y rest) x
          (contains_first x (y ∷ rest))
          ∙ sym (several_ordinary x y rest)

  -- where it opens or closes a context, it has one edge
  pub one_edge : (mark_of line ≡ ordinary → ⊥) → length edges ≡ 1
  one_edge marked = elim called_or [
    | inl c ↦ absurd (marked (ap mark_of c.1))
    | inr drawn ↦ ap (length {A = Label}) drawn ∙ go line marked is.some
  ]
    where
      go : (line : List Label) → (mark_of line ≡ ordinary → ⊥) → 0 < length line →
          length line ≡ 1
      go [] marked some = absurd (marked refl)
      go (x ∷ []) marked some = refl
      go (x ∷ y ∷ rest) marked some = absurd (marked (several_ordinary x y rest))
