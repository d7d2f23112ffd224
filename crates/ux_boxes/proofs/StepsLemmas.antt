-- What fit places give: steps stay inside, and lines are calls or have none.
use Rattle.std.proofs.Common.{arith, ◌≡◌, ℕ, ◌<◌, ◌≤◌, List, [], ◌∷◌, ◌++◌, length, refl, ap, subst, sym, ◌∙◌, ◌⊎◌, inl, inr, false}
use Rattle.std.specs.Prelude.{Contains, All}
use Rattle.std.proofs.lemmas.Option.{slice_get_past}
use Rattle.std.proofs.lemmas.List.Elements.{All-nil, All-cons, All-head, All-tail, All-contains, All-contains_itself, All-weaker}
use Rattle.ux_base.proofs.Lists.{nothing_in, less_or}
use Rattle.ux_net.specs.declared.label.Label.{Label}
use Rattle.ux_net.specs.declared.label.Label.TheVariants.{Empty, CaseFolded, CaseExact, Mask, Brace, Space, NoSpace, Begin, End, Positive, Negative, ContextEnd, Cut, Call}
use Rattle.ux_boxes.specs.declared.place.Place.{Place}
use Rattle.ux_net.specs.Words.{Step}
use Rattle.ux_boxes.specs.Places.{places_of, place_targets, targets_in, label_lines, lines_in, IsPlaceStep}
use Rattle.ux_net.specs.Nets.{IsCalled}
use Rattle.ux_boxes.specs.Fit.{is_call, IsFit, IsFitLine}
use Rattle.ux_boxes.proofs.NumbersLemmas.{graph_so, graph_so_at}

-- a place with a target is there
pub target_from : (places : List Place) (a b : ℕ) → Contains (place_targets places a) b →
    a < length places
target_from places a b h = elim (less_or a (length places)) [
  | inl l ↦ l
  | inr p ↦ absurd (nothing_in {x = b}
      (subst (λ o. Contains (targets_in o) b) (slice_get_past places a p) h))
]

-- and one with a line
pub line_from : (places : List Place) (a : ℕ) (line : List Label) →
    Contains (label_lines places a) line → a < length places
line_from places a line h = elim (less_or a (length places)) [
  | inl l ↦ l
  | inr p ↦ absurd (nothing_in {x = line}
      (subst (λ o. Contains (lines_in o) line) (slice_get_past places a p) h))
]

-- both ends of a step are there
pub step_inside : (places : List Place) (s : Step) → IsPlaceStep places s →
    (s.from < length places) × (s.to < length places)
step_inside places s i =
    (target_from places s.from s.to i.leads, line_from places s.to s.labels i.line)

no_call_in : (front back : List Label) (h : ℕ) →
    All (λ (x : Label). is_call x ≡ false) (front ++ Call h ∷ back) → ⊥
no_call_in [] back h all =
    let no = All-head (λ (x : Label). is_call x ≡ false) (Call h) back all in cc
no_call_in (x ∷ front) back h all = no_call_in front back h
    (All-tail (λ (x : Label). is_call x ≡ false) x (front ++ Call h ∷ back) all)

one_call : (front back : List Label) (h k : ℕ) → Call k ∷ [] ≡ front ++ Call h ∷ back →
    Call k ∷ [] ≡ Call h ∷ []
one_call [] back h k e = cc
one_call (x ∷ []) back h k e = absurd (cc)
one_call (x ∷ y ∷ front) back h k e = absurd (cc)

-- a label is a call or none
call_or : (x : Label) → ((h : ℕ) × (x ≡ Call h)) ⊎ (is_call x ≡ false)
call_or Empty = inr refl
call_or (CaseFolded text) = inr refl
call_or (CaseExact text) = inr refl
call_or (Mask text) = inr refl
call_or (Brace text) = inr refl
call_or Space = inr refl
call_or NoSpace = inr refl
call_or (Begin name) = inr refl
call_or (End name) = inr refl
call_or Positive = inr refl
call_or Negative = inr refl
call_or ContextEnd = inr refl
call_or Cut = inr refl
call_or (Call h) = inl (h, refl)

-- a line that is one call, of a graph that is there
abbrev pub IsCallLine : ℕ → List Label → Type 0
IsCallLine count line = (h : ℕ) × (line ≡ Call h ∷ []) × (1 ≤ h) × (h ≤ count)

-- a fit line is one call, or calls nothing
pub fit_cases : (count : ℕ) (line : List Label) → IsFitLine count line →
    IsCallLine count line ⊎ All (λ (x : Label). is_call x ≡ false) line
fit_cases count [] fit = absurd (let some = fit.line.some in omega (arith, some))
fit_cases count (x ∷ y ∷ ys) fit = inr (fit.line.lone (omega arith))
fit_cases count (x ∷ []) fit = elim (call_or x) [
  | inl c ↦
      let called : IsCalled count (Call c.0) =
      subst (IsCalled count) c.1 (All-head (IsCalled count) x [] fit.called) in
      inl (c.0, ap (λ (y : Label). y ∷ []) c.1, called.0, called.1)
  | inr n ↦ inr (All-cons (λ (x : Label). is_call x ≡ false) x [] n
      (All-nil (λ (x : Label). is_call x ≡ false)))
]

-- a fit line in which a call stands is that call
pub call_alone : (count : ℕ) (line front back : List Label) (h : ℕ) → IsFitLine count line →
    line ≡ front ++ Call h ∷ back → line ≡ Call h ∷ []
call_alone count line front back h fit e = elim (fit_cases count line fit) [
  | inl c ↦ c.1 ∙ one_call front back h c.0 (sym c.1 ∙ e)
  | inr n ↦ absurd (no_call_in front back h
      (subst (λ l. All (λ (x : Label). is_call x ≡ false) l) e n))
]

-- calls are one where their lines are
pub same_call : (h k : ℕ) → Call h ∷ [] ≡ Call k ∷ [] → h ≡ k
same_call h k e = cc

-- the graph of a fit call is there
pub call_inside : (count : ℕ) (line : List Label) (h : ℕ) → IsFitLine count line →
    line ≡ Call h ∷ [] → (1 ≤ h) × (h ≤ count)
call_inside count line h fit e = elim (fit_cases count line fit) [
  | inl c ↦
      let same = same_call h c.0 (sym e ∙ c.1) in
      let from = c.2 in
      let to = c.3 in
      (omega arith, omega arith)
  | inr n ↦ absurd (no_call_in [] [] h
      (subst (λ l. All (λ (x : Label). is_call x ≡ false) l) e n))
]

module _ (graphs : List (List Place)) (fit : All (IsFit (length graphs)) graphs) where
  -- each step is along a fit line
  pub step_line : (g : ℕ) (s : Step) → IsPlaceStep (places_of graphs g) s →
      IsFitLine (length graphs) s.labels
  step_line g s i =
      let f = graph_so (IsFit (length graphs)) graphs fit g s.from
      (step_inside (places_of graphs g) s i).0 in
      All-contains (IsFitLine (length graphs)) (label_lines (places_of graphs g) s.to) s.labels
      (f.lines s.to) i.line

  -- each step is along one call, or calls nothing
  pub step_cases : (g : ℕ) (s : Step) → IsPlaceStep (places_of graphs g) s →
      IsCallLine (length graphs) s.labels ⊎ All (λ (x : Label). is_call x ≡ false) s.labels
  step_cases g s i = fit_cases (length graphs) s.labels (step_line g s i)

  -- a graph that is called has a start
  pub start_inside : (g h : ℕ) (s : Step) → IsPlaceStep (places_of graphs g) s →
      s.labels ≡ Call h ∷ [] → 0 < length (places_of graphs h)
  start_inside g h s i e =
      let c = call_inside (length graphs) s.labels h (step_line g s i) e in
      let f = graph_so_at (IsFit (length graphs)) graphs fit h c.0 c.1 in
      let two = f.two in
      omega arith

-- the targets of a place are places
pub targets_inside : (count : ℕ) (places : List Place) → IsFit count places → (n : ℕ) →
    All (λ target. target < length places) (place_targets places n)
targets_inside count places fit n =
    All-weaker (Contains (place_targets places n)) (λ target. target < length places)
    (λ target h. fit.inside n target h) (place_targets places n)
    (All-contains_itself (place_targets places n))
