-- A table of the characters that spans hold, in two passes: how far the spans reach that begin at
-- each place, and then the furthest end so far.
use Rattle.std.proofs.Common.{arith, ◌≡◌, ◌↔◌, ℕ, ◌+◌, ◌<◌, ◌≤◌, max, List, [], ◌∷◌, ◌++◌, Bool, true, false, length, take, get_or, set, inl, inr, refl, sym, ◌∙◌, ap, subst}
use Rattle.std.specs.Prelude.{IsTrue}
use Rattle.std.specs.List.{All}
use Rattle.std.proofs.lemmas.Bool.{cases_eq, cases_lt}
use Rattle.std.proofs.lemmas.List.{get_or-set_same, get_or-set_other, get_or_past, get_or_append_left, get_or_push, take_more}
use Rattle.ux_alphabet.specs.Letters.{never_letter}
use Rattle.ux_alphabet.specs.Spans.{Holds, IsHeld, Reaches, IsReached, AreReaches, ReachesPast, IsMarked, IsSwept, IsTableOf}
use Rattle.ux_alphabet.specs.declared.spans.Span.{Span}
use Rattle.ux_alphabet.proofs.AnyLemmas.{Any-weaker, Any-append_left, Any-last, Any-push_cases}

-- the span names no place from the end on
abbrev pub IsBelow : ℕ → Span → Type 0
IsBelow end span = (span.first < end) × (span.last < end)

-- how far a place reaches, also by one more span
abbrev pub furthest : List ℕ → Span → ℕ
furthest reaches span = max (get_or reaches span.first 0) (span.last + 1)

-- one more span may reach further from its first place
pushed_there : (front : List Span) (span : Span) (reaches now : List ℕ) (y : ℕ) →
    get_or now span.first 0 ≡ furthest reaches span → AreReaches front reaches →
    (y < get_or now span.first 0) ↔ IsReached (front ++ span ∷ []) span.first y
pushed_there front span reaches now y read before =
    let P = Reaches span.first y in
    let earlier = before span.first y in (
      λ past. elim (cases_lt y (get_or reaches span.first 0)) [
        | inl old ↦ Any-append_left P front (span ∷ []) (earlier.0 old)
        | inr new ↦ Any-last P front span (refl, omega (arith, past, read, new))
      ],
      λ some. elim (Any-push_cases P front span some) [
        | inl old ↦ (let lower = earlier.1 old in omega (arith, lower, read))
        | inr here ↦ omega (arith, here.1, read)
      ],
    )

-- and from no other place
pushed_elsewhere : (front : List Span) (span : Span) (reaches now : List ℕ) (start y : ℕ) →
    get_or now start 0 ≡ get_or reaches start 0 → (start ≡ span.first → ⊥) →
    AreReaches front reaches →
    (y < get_or now start 0) ↔ IsReached (front ++ span ∷ []) start y
pushed_elsewhere front span reaches now start y read other before =
    let P = Reaches start y in
    let earlier = before start y in (
      λ past. Any-append_left P front (span ∷ []) (earlier.0 (omega (arith, past, read))),
      λ some. elim (Any-push_cases P front span some) [
        | inl old ↦ (let lower = earlier.1 old in omega (arith, lower, read))
        | inr here ↦ absurd (other (sym here.0))
      ],
    )

AreReaches-push : (front : List Span) (span : Span) (reaches : List ℕ) →
    span.first < length reaches → AreReaches front reaches →
    AreReaches (front ++ span ∷ []) (set reaches span.first (furthest reaches span))
AreReaches-push front span reaches lt before start y =
    let reach = furthest reaches span in
    let now = set reaches span.first reach in
    elim (cases_eq start span.first) [
      | inl same ↦ (
          let read = get_or-set_same reaches span.first reach 0 lt in
          subst (λ i. (y < get_or now i 0) ↔ IsReached (front ++ span ∷ []) i y) (sym same)
          (pushed_there front span reaches now y read before))
      | inr other ↦ (
          let read = get_or-set_other reaches span.first start reach 0 other in
          pushed_elsewhere front span reaches now start y read other before)
    ]

pub AreReaches-more : (spans : List Span) (i : ℕ) (d : Span) (reaches now : List ℕ) →
    i < length spans → (get_or spans i d).first < length reaches →
    now ≡ set reaches (get_or spans i d).first (furthest reaches (get_or spans i d)) →
    AreReaches (take i spans) reaches → AreReaches (take (i + 1) spans) now
AreReaches-more spans i d reaches now lt inside is before =
    let span = get_or spans i d in
    let step = AreReaches-push (take i spans) span reaches inside before in
    subst (λ (r : List ℕ). AreReaches (take (i + 1) spans) r) (sym is)
    (subst (λ (s : List Span). AreReaches s (set reaches span.first (furthest reaches span)))
    (sym (take_more spans i d lt)) step)

-- the furthest end, one place later
pub ReachesPast-more : (reaches : List ℕ) (place end y : ℕ) →
    ((y < end) ↔ ReachesPast reaches place y) →
    (y < max end (get_or reaches place 0)) ↔ ReachesPast reaches (place + 1) y
ReachesPast-more reaches place end y before = (
  λ past. elim (cases_lt y end) [
    | inl earlier ↦ (let h = before.0 earlier in (h.0, omega (arith, h.1), h.2))
    | inr later ↦ (place, omega arith, omega (arith, past, later))
  ],
  λ (start, lt, reached). elim (cases_eq start place) [
    | inl same ↦ omega (arith, reached, ap (λ i. get_or reaches i 0) same)
    | inr other ↦ (let h = before.1 (start, omega (arith, lt, other), reached) in omega (arith, h))
  ],
)

-- the marks so far, for any marks
abbrev pub AreMarks : List Bool → (ℕ → Type 0) → ℕ → Type 0
AreMarks table Marked count = (c : ℕ) → c < count → IsTrue (get_or table c false) ↔ Marked c

pub AreMarks-more : (table now : List Bool) (Marked : ℕ → Type 0) (place : ℕ) (mark : Bool) →
    length table ≡ place → now ≡ table ++ mark ∷ [] → (IsTrue mark ↔ Marked place) →
    AreMarks table Marked place → AreMarks now Marked (place + 1)
AreMarks-more table now Marked place mark size is here before c lt =
    let P : Bool → Type 0 = λ b. IsTrue b ↔ Marked c in
    elim (cases_eq c place) [
      | inl same ↦ (
          let pushed = get_or_push table mark false c (size ∙ sym same) in
          let read = ap (λ t. get_or t c false) is ∙ pushed in
          subst P (sym read) (subst (λ i. IsTrue mark ↔ Marked i) (sym same) here))
      | inr other ↦ (
          let inside : c < length table = omega (arith, lt, other, size) in
          let kept = get_or_append_left table (mark ∷ []) false c inside in
          let read = ap (λ t. get_or t c false) is ∙ kept in
          subst P (sym read) (before c (omega (arith, inside, size))))
    ]

-- a mark that compares the place with the furthest end
pub IsMarked-mark : (reaches : List ℕ) (place end : ℕ) (mark : Bool) →
    (IsTrue mark ↔ ((never_letter place ≡ false) × (place < end))) →
    ((place < end) ↔ ReachesPast reaches (place + 1) place) → IsTrue mark ↔ IsMarked reaches place
IsMarked-mark reaches place end mark says past = (
  λ t. let m = says.0 t in (m.0, past.0 m.1),
  λ m. says.1 (m.0, past.1 m.1),
)

-- what a place up to c reaches is what a span holds
ReachesPast-held : (spans : List Span) (reaches : List ℕ) (c : ℕ) → AreReaches spans reaches →
    ReachesPast reaches (c + 1) c ↔ IsHeld spans c
ReachesPast-held spans reaches c are = (
  λ (start, lt, reached).
      let holds : (s : Span) → Reaches start c s → Holds c s = λ s h. (omega (arith, h.0, lt), h.1) in
      Any-weaker (Reaches start c) (Holds c) holds spans ((are start c).0 reached),
  λ (k, span, within, is, held).
      let reached = (are span.first c).1 (k, span, within, is, (refl, held.1)) in
      (span.first, omega (arith, held.0), reached),
)

-- no span holds a character from the end on
IsHeld-past : (spans : List Span) (size c : ℕ) → All (IsBelow size) spans → size ≤ c →
    IsHeld spans c → ⊥
IsHeld-past spans size c below past (k, span, within, is, held) =
    let last = subst (IsBelow size) is (below k span within) in
    omega (arith, last.1, held.1, past)

is_true : (b : Bool) → b ≡ false → IsTrue b → ⊥
is_true true h t = cc
is_true false h t = cc

pub IsTableOf-swept : (spans : List Span) (reaches : List ℕ) (table : List Bool) (size : ℕ) →
    All (IsBelow size) spans → AreReaches spans reaches → length reaches ≡ size →
    IsSwept reaches table → IsTableOf spans table
IsTableOf-swept spans reaches table size below are is swept c =
    elim (cases_lt c size) [
      | inl lt ↦ (
          let mark = swept.marks c (omega (arith, lt, is)) in
          let held = ReachesPast-held spans reaches c are in
          (λ t. let m = mark.0 t in (m.0, held.0 m.1), λ m. mark.1 (m.0, held.1 m.1)))
      | inr past ↦ (
          let none = get_or_past table c false (omega (arith, past, is, swept.size)) in (
            λ t. absurd (is_true (get_or table c false) none t),
            λ m. absurd (IsHeld-past spans size c below past m.1),
          ))
    ]
