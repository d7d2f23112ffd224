-- Marks that are set, and what a search keeps of them.
use Rattle.std.proofs.Common.{arith, ◌≡◌, ◌≢◌, ℕ, ◌+◌, ◌<◌, ◌≤◌, List, [], ◌∷◌, ◌++◌, refl, sym, ◌∙◌, ap, ◌⊎◌, inl, inr, length, length-append, length-set, get_or, set}
use Rattle.std.specs.Prelude.{sum_by}
use Rattle.std.proofs.lemmas.List.{get_or_past, get_or-set_same, get_or-set_other}
use Rattle.std.proofs.lemmas.List.Sums.{sum_by-set, get_or-le-sum_by}
use Rattle.ux_base.proofs.Lists.{same_or, less_or}
use Rattle.ux_digraph.specs.declared.grouping.Mark.{Mark}
use Rattle.ux_digraph.specs.declared.grouping.Mark.TheVariants.{New, Open, Done}
use Rattle.ux_digraph.specs.declared.grouping.Group.{Group}
use Rattle.ux_digraph.specs.Paths.{row_of}
use Rattle.ux_digraph.specs.Grouping.{mark_at, KeepsMet, Settled, ArePlaced, AreNumbered, is_left, is_new, steps_left}

pub set_marks : (marks : List Mark) (u : ℕ) (m : Mark) → u < length marks → (v : ℕ) →
    ((v ≡ u) × (mark_at (set marks u m) v ≡ m))
    ⊎ ((v ≢ u) × (mark_at (set marks u m) v ≡ mark_at marks v))
set_marks marks u m h v = elim (same_or v u) [
  | inl e ↦ inl (e, rw e (get_or-set_same marks u m New h))
  | inr n ↦ inr (n, get_or-set_other marks u v m New n)
]

pub same_place : {i j : ℕ} → Open i ≡ Open j → i ≡ j
same_place e = cc

pub same_number : {i j : ℕ} → Done i ≡ Done j → i ≡ j
same_number e = cc

pub new_is_not_open : {i : ℕ} → New ≡ Open i → ⊥
new_is_not_open e = cc

pub new_is_not_done : {k : ℕ} → New ≡ Done k → ⊥
new_is_not_done e = cc

pub open_is_not_done : {i k : ℕ} → Open i ≡ Done k → ⊥
open_is_not_done e = cc

module _ (marks : List Mark) (node place : ℕ) (inside : node < length marks)
    (fresh : mark_at marks node ≡ New) where
  -- what a node that was new is opened at
  pub opened_keeps : KeepsMet marks (set marks node (Open place))
  opened_keeps u met e = elim (set_marks marks node (Open place) inside u) [
    | inl s ↦ new_is_not_open (sym e ∙ s.1)
    | inr s ↦ met (sym s.1 ∙ e)
  ]

  pub opened_done : (u k : ℕ) → mark_at marks u ≡ Done k →
      mark_at (set marks node (Open place)) u ≡ Done k
  opened_done u k e = elim (set_marks marks node (Open place) inside u) [
    | inl s ↦ absurd (new_is_not_done (sym fresh ∙ (ap (mark_at marks) (sym s.0) ∙ e)))
    | inr s ↦ s.1 ∙ e
  ]

  pub done_opened : (u k : ℕ) → mark_at (set marks node (Open place)) u ≡ Done k →
      mark_at marks u ≡ Done k
  done_opened u k e = elim (set_marks marks node (Open place) inside u) [
    | inl s ↦ absurd (open_is_not_done (sym s.1 ∙ e))
    | inr s ↦ sym s.1 ∙ e
  ]

  -- an open node stays at its place
  pub opened_open : (u i : ℕ) → mark_at marks u ≡ Open i →
      mark_at (set marks node (Open place)) u ≡ Open i
  opened_open u i e = elim (set_marks marks node (Open place) inside u) [
    | inl s ↦ absurd (new_is_not_open (sym fresh ∙ (ap (mark_at marks) (sym s.0) ∙ e)))
    | inr s ↦ s.1 ∙ e
  ]

  pub settled_still : (edges : List (List ℕ)) (count : ℕ) → Settled edges marks count →
      Settled edges (set marks node (Open place)) count
  settled_still edges count s = record {
    len = length-set marks node (Open place) ∙ s.len;
    room =
        let sum = sum_by-set is_left marks node (Open place) New inside in
        let one : is_left (mark_at marks node) ≡ 1 = rw fresh refl in
        let r = s.room in omega arith;
    below = λ u k e. s.below u k (done_opened u k e);
    falls = λ u k e v c. let f = s.falls u k (done_opened u k e) v c in
        (f.0, opened_done v f.0 f.1, f.2);
    joined = λ u v k e d. s.joined u v k (done_opened u k e) (done_opened v k d);
  }

  -- opening a node leaves less to do, although its edges are ahead then
  pub opened_falls : (edges : List (List ℕ)) (ahead now later : List ℕ)
      (groups joined after : List Group) (target : ℕ) (g h : Group) → node < length edges →
      now ≡ ahead ++ target ∷ [] → later ≡ ahead ++ row_of edges node →
      joined ≡ groups ++ g ∷ [] → after ≡ joined ++ h ∷ [] →
      steps_left edges (set marks node (Open place)) later after
      < steps_left edges marks now joined
  opened_falls edges ahead now later groups joined after target g h at one two three four =
      let sum = sum_by-set is_new marks node (Open place) New inside in
      let is : is_new (mark_at marks node) ≡ 1 = rw fresh refl in
      let same : sum_by is_new marks ≡ sum_by is_new (set marks node (Open place)) + 1 =
      omega arith in
      let most : length (row_of edges node) ≤ sum_by (λ (row : List ℕ). length row) edges =
      get_or-le-sum_by (λ (row : List ℕ). length row) edges node [] at in
      let a : length now ≡ length ahead + 1 = ap length one ∙ length-append ahead (target ∷ []) in
      let b : length later ≡ length ahead + length (row_of edges node) =
      ap length two ∙ length-append ahead (row_of edges node) in
      let d : length after ≡ length joined + 1 = ap length four ∙ length-append joined (h ∷ []) in
      rw same (omega arith)

-- numbers are given to the open nodes from a place on, one by one
module _ (marks : List Mark) (trail : List ℕ) (p : ArePlaced marks trail) (first number : ℕ) where
  pub numbering_begins : AreNumbered marks first first number marks
  numbering_begins = record {
    len = refl;
    fresh = λ u e. e;
    done = λ u k e. e;
    high = λ u i e a b. absurd (omega arith);
    before = λ u i e h. e;
    after = λ u i e h. e;
    left = refl;
    unmet = refl;
  }

  pub numbering_goes_on : (new : List Mark) (place node : ℕ) → first ≤ place →
      place < length trail → node ≡ get_or trail place 0 → node < length marks →
      AreNumbered marks first place number new →
      AreNumbered marks first (place + 1) number (set new node (Done number))
  numbering_goes_on new place node low high is inside n = record {
    len = length-set new node (Done number) ∙ n.len;
    fresh = λ u e. elim (set_marks new node (Done number) within u) [
      | inl s ↦ absurd (new_is_not_open (sym e ∙ (ap (mark_at marks) s.0 ∙ was)))
      | inr s ↦ s.1 ∙ n.fresh u e
    ];
    done = λ u k e. elim (set_marks new node (Done number) within u) [
      | inl s ↦ absurd (open_is_not_done (sym was ∙ (ap (mark_at marks) (sym s.0) ∙ e)))
      | inr s ↦ s.1 ∙ n.done u k e
    ];
    high = λ u i e a b. elim (set_marks new node (Done number) within u) [
      | inl s ↦ s.1
      | inr s ↦ elim (less_or i place) [
        | inl l ↦ s.1 ∙ n.high u i e a l
        | inr l ↦
            let same : i ≡ place = omega arith in
            absurd (s.0 (sym (p.listed u i e).1 ∙ (ap (λ j. get_or trail j 0) same ∙ sym is)))
      ]
    ];
    before = λ u i e h. elim (set_marks new node (Done number) within u) [
      | inl s ↦
          let same : i ≡ place = same_place (sym e ∙ (ap (mark_at marks) s.0 ∙ was)) in
          absurd (omega arith)
      | inr s ↦ s.1 ∙ n.before u i e h
    ];
    after = λ u i e h. elim (set_marks new node (Done number) within u) [
      | inl s ↦
          let same : i ≡ place = same_place (sym e ∙ (ap (mark_at marks) s.0 ∙ was)) in
          absurd (omega arith)
      | inr s ↦ s.1 ∙ n.after u i e (omega arith)
    ];
    left =
        let sum = sum_by-set is_left new node (Done number) New within in
        let one : is_left (mark_at new node) ≡ 1 = rw now refl in
        let l = n.left in omega arith;
    unmet =
        let sum = sum_by-set is_new new node (Done number) New within in
        let none : is_new (mark_at new node) ≡ 0 = rw now refl in
        let l = n.unmet in omega arith;
  }
    where
      within : node < length new
      within = let l = n.len in omega arith

      was : mark_at marks node ≡ Open place
      was = ap (mark_at marks) is ∙ p.placed place high

      now : mark_at new node ≡ Open place
      now = n.after node place was (omega arith)

  pub numbering_keeps : (new : List Mark) (last : ℕ) → AreNumbered marks first last number new →
      KeepsMet marks new
  numbering_keeps new last n u met e = go (mark_at marks u) refl
    where
      go : (m : Mark) → mark_at marks u ≡ m → ⊥
      go New is = met is
      go (Done k) is = new_is_not_done (sym e ∙ n.done u k is)
      go (Open i) is = elim (less_or i first) [
        | inl l ↦ new_is_not_open (sym e ∙ n.before u i is l)
        | inr l ↦ elim (less_or i last) [
          | inl b ↦ new_is_not_done (sym e ∙ n.high u i is l b)
          | inr b ↦ new_is_not_open (sym e ∙ n.after u i is b)
        ]
      ]

-- a node that has a mark is one of those that are marked
pub marked_inside : (marks : List Mark) (u : ℕ) → mark_at marks u ≢ New → u < length marks
marked_inside marks u met = elim (less_or u (length marks)) [
  | inl l ↦ l
  | inr l ↦ absurd (met (get_or_past marks u New l))
]
