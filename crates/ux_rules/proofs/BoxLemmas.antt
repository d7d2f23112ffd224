-- The steps of a box are made line by line, and target by target.
use Rattle.std.proofs.Common.{arith, ◌≡◌, ◌≢◌, ℕ, zero, suc, ◌+◌, ◌-◌, ◌<◌, ◌≤◌, ◌⊎◌, inl, inr, List, [], ◌∷◌, ◌++◌, Bool, true, false, cond, nat_lt, refl, sym, ap, ◌∙◌, subst, length, take, get_or, None}
use Rattle.std.specs.Prelude.{Contains}
use Rattle.std.proofs.lemmas.List.Elements.{Contains-get_or, Contains-push_cases}
use Rattle.ux_base.proofs.Lists.{take_more, take_whole, nothing_in, first_or_later, contains_first, same_or}
use Rattle.ux_grf.specs.declared.graph.Graph.{Graph}
use Rattle.ux_grf.specs.declared.item.Item.{Item}
use Rattle.ux_grf.specs.declared.item.Item.TheVariants as item
use Rattle.ux_grf.specs.Content.{is_read}
use Rattle.ux_grf.specs.WellFormed.{IsWellFormed, box_of_graph}
use Rattle.ux_rules.specs.declared.draft.Draft.{Draft}
use Rattle.ux_rules.specs.declared.error.RuleError.{RuleError}
use Rattle.ux_rules.specs.declared.error.RuleError.TheVariants as error
use Rattle.ux_rules.specs.declared.step.Sign.{Sign}
use Rattle.ux_rules.specs.declared.step.Sign.TheVariants.{Free}
use Rattle.ux_rules.specs.declared.step.Step.{Step}
use Rattle.ux_rules.specs.Drafts.{Spot, before, behind, IsLineOf, Fits, passes, goes, IsDrawn, IsDraft, Keeps, AreGood, AreLinesGood, Crosses, IsLineDone, AreLinesDone, AreTargetsDone, AreBoxesDone, StopsBox, StopsBoxes}
use Rattle.ux_rules.specs.Refusing.{HasBadItem}
use Rattle.ux_rules.specs.Runs.{Run}
use Rattle.ux_rules.specs.Words.{IsSaid, IsSpelled, AreSaid, IsThrough, lines_of, targets_of, mark_of}
use Rattle.ux_rules.proofs.LineLemmas.{IsLinked, linked_draft, linked_kept, linked_run}
use Rattle.ux_rules.proofs.RunLemmas.{run_kept}
use Rattle.ux_rules.proofs.WordLemmas.{target_inside}

-- the steps lead along the first lines of the box
pub record IsAtLine (graph : Graph) (node : ℕ) (old now : Draft) (lines : List (List Item)) :
    Type 0 where
  pub draft : IsDraft graph now
  pub kept : Keeps old now
  pub crosses : (line : List Item) → Contains lines line → (signs : List Sign) →
      IsSpelled line signs → Crosses graph node now signs
  pub good : (line : List Item) → Contains lines line → mark_of line ≡ None → AreGood line

pub lines_begin : (graph : Graph) (node : ℕ) (old : Draft) → IsDraft graph old →
    IsAtLine graph node old old []
lines_begin graph node old drawn = record {
  draft = drawn;
  kept = λ s here. here;
  crosses = λ line here. absurd (nothing_in here);
  good = λ line here. absurd (nothing_in here);
}

pub lines_next : (graph : Graph) (node : ℕ) (old now new : Draft) (lines : List (List Item))
    (i : ℕ) (line : List Item) → i < length lines → line ≡ get_or lines i line →
    IsAtLine graph node old now (take i lines) → IsDraft graph new →
    IsLineDone graph node line now new → IsAtLine graph node old new (take (i + 1) lines)
lines_next graph node old now new lines i line inside is h drawn done =
    let front : take (i + 1) lines ≡ take i lines ++ line ∷ [] =
    take_more lines i line inside
    ∙ ap (λ (x : List Item). take i lines ++ x ∷ []) (sym is) in
    subst (λ (ls : List (List Item)). IsAtLine graph node old new ls) (sym front) (record {
      draft = drawn;
      kept = λ s here. done.kept s (h.kept s here);
      crosses = λ x here. elim (Contains-push_cases (take i lines) line x here) [
        | inl a ↦ λ signs says. run_kept done.kept (h.crosses x a signs says)
        | inr e ↦ subst (λ (y : List Item). (signs : List Sign) → IsSpelled y signs →
            Crosses graph node new signs) e done.crosses
      ];
      good = λ x here. elim (Contains-push_cases (take i lines) line x here) [
        | inl a ↦ h.good x a
        | inr e ↦ subst (λ (y : List Item). mark_of y ≡ None → AreGood y) e done.good
      ];
    })

-- the lines of a box other than box 0 are drawn
drawn_lines : (graph : Graph) (node : ℕ) → node ≢ 0 →
    lines_of graph node ≡ (box_of_graph graph node).lines
drawn_lines graph zero other = absurd (other refl)
drawn_lines graph (suc node) other = refl

pub lines_end : (graph : Graph) (node : ℕ) (old now : Draft) (i : ℕ) → node ≢ 0 →
    length (box_of_graph graph node).lines ≤ i →
    IsAtLine graph node old now (take i (box_of_graph graph node).lines) →
    IsDraft graph now × AreLinesDone graph node old now
lines_end graph node old now i other past h =
    let all : take i (box_of_graph graph node).lines ≡ lines_of graph node =
    take_whole (box_of_graph graph node).lines i past ∙ sym (drawn_lines graph node other) in
    let whole = subst (λ (ls : List (List Item)). IsAtLine graph node old now ls) all h in (
      h.draft,
      record {
        kept = whole.kept;
        crosses = λ signs through. whole.crosses through.line through.of_box signs through.spelled;
        good = whole.good;
      },
    )

-- a line that is drawn in a box other than the start and the end
pub line_here : (graph : Graph) (node i : ℕ) (line : List Item) → node ≢ 1 → node ≢ 0 →
    i < length (box_of_graph graph node).lines →
    line ≡ get_or (box_of_graph graph node).lines i line →
    IsLineOf graph node line
line_here graph node i line inner other inside is = record {
  inner = inner;
  of_box = subst (λ (ls : List (List Item)). Contains ls line)
      (sym (drawn_lines graph node other)) (i, inside, sym is);
}

pub empty_word : (signs : List Sign) → AreSaid (item.Empty ∷ []) signs → signs ≡ []
empty_word signs (front, back, first, rest, e) =
    e ∙ (ap (λ (x : List Sign). x ++ back) first ∙ rest)

-- box 0 counts as an empty line
pub start_lines : (graph : Graph) (old new : Draft) → 0 < length graph.boxes → IsDraft graph old →
    IsLinked old 0 (length graph.boxes) Free new →
    IsDraft graph new × AreLinesDone graph 0 old new
start_lines graph old new some (spot, drawn) linked =
    let count = length graph.boxes in
    let same : count + 0 ≡ count = omega arith in
    let second : spot count ≡ behind 0 =
    ap spot (sym same) ∙ drawn.second 0 some in
    let through : IsThrough graph 0 [] = record {
      before_end = λ e. absurd (omega (arith, e));
      line = item.Empty ∷ [];
      of_box = contains_first (item.Empty ∷ []) [];
      spelled = ([], [], refl, refl, refl);
    } in (
      linked_draft graph old new spot drawn 0 count Free
          (let room = drawn.room in omega (arith, room, some))
          (let room = drawn.room in omega (arith, room, some))
          (subst (λ (s : Spot). Fits graph s Free (spot count)) (sym (drawn.first 0 some))
          (subst (λ (s : Spot). Fits graph (before 0) Free s) (sym second) (passes Free through)))
          linked,
      record {
        kept = linked_kept old new 0 count Free linked;
        crosses = λ signs t. elim (first_or_later (item.Empty ∷ []) [] t.line t.of_box) [
          | inl e ↦
              let none : signs ≡ [] = empty_word signs
              (subst (λ (l : List Item). IsSpelled l signs) (sym e) t.spelled) in
              subst (λ (n : ℕ). Run new.steps.items 0 n signs) (sym same)
              (subst (λ (w : List Sign). Run new.steps.items 0 count w) (sym none)
              (linked_run old new 0 count Free linked))
          | inr later ↦ absurd (nothing_in later)
        ];
        good = λ line here no_mark it within_line.
            elim (first_or_later (item.Empty ∷ []) [] line here) [
              | inl e ↦ elim (first_or_later item.Empty [] it
                  (subst (λ (l : List Item). Contains l it) (sym e) within_line)) [
                    | inl is ↦ ([], subst (λ (x : Item). IsSaid x []) is refl)
                    | inr later ↦ absurd (nothing_in later)
                  ]
              | inr later ↦ absurd (nothing_in later)
            ];
      },
    )

-- the steps lead to the first targets
pub record IsAtTarget (graph : Graph) (node : ℕ) (old now : Draft) (targets : List ℕ) : Type 0 where
  pub draft : IsDraft graph now
  pub kept : Keeps old now
  pub goes : (target : ℕ) → Contains targets target →
      Run now.steps.items (length graph.boxes + node) target []

pub targets_begin : (graph : Graph) (node : ℕ) (old : Draft) → IsDraft graph old →
    IsAtTarget graph node old old []
targets_begin graph node old drawn = record {
  draft = drawn;
  kept = λ s here. here;
  goes = λ t here. absurd (nothing_in here);
}

pub targets_next : (graph : Graph) (node : ℕ) (old now new : Draft) (i target : ℕ) →
    IsWellFormed graph → node < length graph.boxes → i < length (targets_of graph node) →
    target ≡ get_or (targets_of graph node) i 0 →
    IsAtTarget graph node old now (take i (targets_of graph node)) →
    IsLinked now (length graph.boxes + node) target Free new →
    IsAtTarget graph node old new (take (i + 1) (targets_of graph node))
targets_next graph node old now new i target formed inside within_targets is h linked =
    let targets = targets_of graph node in
    let front : take (i + 1) targets ≡ take i targets ++ target ∷ [] =
    take_more targets i 0 within_targets
    ∙ ap (λ (x : ℕ). take i targets ++ x ∷ []) (sym is) in
    let here : Contains targets target =
    subst (λ (x : ℕ). Contains targets x) (sym is) (Contains-get_or targets i 0 within_targets) in
    let below = target_inside graph formed node target inside here in
    let spot = h.draft.0 in
    let drawn : IsDrawn graph now.places now.steps.items spot = h.draft.1 in
    let from = length graph.boxes + node in
    subst (λ (ts : List ℕ). IsAtTarget graph node old new ts) (sym front) (record {
      draft = linked_draft graph now new spot drawn from target Free
          (let room = drawn.room in omega (arith, room, inside))
          (let room = drawn.room in omega (arith, room, below))
          (subst (λ (s : Spot). Fits graph s Free (spot target)) (sym (drawn.second node inside))
          (subst (λ (s : Spot). Fits graph (behind node) Free s) (sym (drawn.first target below))
          (goes here))) linked;
      kept = λ s x. linked_kept now new from target Free linked s (h.kept s x);
      goes = λ t x. elim (Contains-push_cases (take i targets) target t x) [
        | inl a ↦ run_kept (linked_kept now new from target Free linked) (h.goes t a)
        | inr e ↦ subst (λ (y : ℕ). Run new.steps.items from y []) e
            (linked_run now new from target Free linked)
      ];
    })

pub targets_end : (graph : Graph) (node : ℕ) (old now : Draft) (i : ℕ) →
    length (targets_of graph node) ≤ i →
    IsAtTarget graph node old now (take i (targets_of graph node)) →
    IsDraft graph now × AreTargetsDone graph node old now
targets_end graph node old now i past h =
    let whole = subst (λ (ts : List ℕ). IsAtTarget graph node old now ts)
    (take_whole (targets_of graph node) i past) h in
    (h.draft, record { kept = whole.kept; goes = whole.goes })

below_or : (k n : ℕ) → k < n + 1 → (k < n) ⊎ (k ≡ n)
below_or k n h = elim (same_or k n) [
  | inl e ↦ inr e
  | inr other ↦ inl (omega (arith, h, other))
]

-- one more box is done
pub box_next : (graph : Graph) (node : ℕ) (old now new : Draft) → AreBoxesDone graph node old →
    AreLinesDone graph node old now → AreTargetsDone graph node now new →
    AreBoxesDone graph (node + 1) new
box_next graph node old now new done lines targets = record {
  crosses = λ k below signs through. elim (below_or k node below) [
    | inl less ↦ run_kept (λ s here. targets.kept s (lines.kept s here))
        (done.crosses k less signs through)
    | inr e ↦ subst (λ (n : ℕ). Crosses graph n new signs) (sym e)
        (run_kept targets.kept
        (lines.crosses signs (subst (λ (n : ℕ). IsThrough graph n signs) e through)))
  ];
  goes = λ k below inner t here. elim (below_or k node below) [
    | inl less ↦ run_kept (λ s x. targets.kept s (lines.kept s x)) (done.goes k less inner t here)
    | inr e ↦ subst (λ (n : ℕ). Run new.steps.items (length graph.boxes + n) t []) (sym e)
        (targets.goes t (subst (λ (n : ℕ). Contains (targets_of graph n) t) e here))
  ];
  good = λ k below. elim (below_or k node below) [
    | inl less ↦ done.good k less
    | inr e ↦ subst (λ (n : ℕ). AreLinesGood graph n) (sym e) lines.good
  ];
}

no_read : (b : Bool) → is_read 1 b ≡ false
no_read true = refl
no_read false = refl

-- the end has no lines
end_bare : (graph : Graph) → IsWellFormed graph → (box_of_graph graph 1).lines ≡ []
end_bare graph formed =
    let two = formed.two in
    ((formed.boxes 1 (omega (arith, two))).bare (no_read (box_of_graph graph 1).reached)).0

-- the end is passed over
pub end_next : (graph : Graph) (draft : Draft) → IsWellFormed graph → AreBoxesDone graph 1 draft →
    AreBoxesDone graph 2 draft
end_next graph draft formed done = record {
  crosses = λ k below signs through. elim (below_or k 1 below) [
    | inl less ↦ done.crosses k less signs through
    | inr e ↦ absurd (through.before_end e)
  ];
  goes = λ k below inner t here. elim (below_or k 1 below) [
    | inl less ↦ done.goes k less inner t here
    | inr e ↦ absurd (inner e)
  ];
  good = λ k below. elim (below_or k 1 below) [
    | inl less ↦ done.good k less
    | inr e ↦ subst (λ (n : ℕ). AreLinesGood graph n) (sym e)
        (λ line here. absurd (nothing_in
        (subst (λ (ls : List (List Item)). Contains ls line) (end_bare graph formed) here)))
  ];
}

-- a box whose lines are good has no bad item
pub good_box : (graph : Graph) (node : ℕ) → AreLinesGood graph node → HasBadItem graph node → ⊥
good_box graph node good h =
    let signs = good h.line h.of_box h.no_mark h.bad h.within in h.unsaid signs.0 signs.1

-- the first box with a bad item
pub stops_first : (graph : Graph) (node : ℕ) (draft : Draft) (e : RuleError) →
    AreBoxesDone graph node draft → StopsBox graph node e → StopsBoxes graph e
stops_first graph node draft (error.Call n) done stops = stops
stops_first graph node draft (error.BadItem n) done (is, bad) = record {
  here = subst (λ (m : ℕ). HasBadItem graph m) (sym is) bad;
  before = λ m less. good_box graph m (done.good m (omega (arith, less, is)));
}
stops_first graph node draft (error.BadMarks n) done stops = stops
stops_first graph node draft error.NoIf done stops = stops
stops_first graph node draft error.NoMemory done stops = stops

spots : ℕ → ℕ → Spot
spots count k = cond (nat_lt k count) (before k) (behind (k - count))

spots_first : (count node : ℕ) → node < count → spots count node ≡ before node
unfolding spots
spots_first count node inside = grind arith

spots_second : (count node : ℕ) → spots count (count + node) ≡ behind node
unfolding spots
spots_second count node =
    let less : nat_lt (count + node) count ≡ false = grind arith in
    let same : count + node - count ≡ node = omega arith in
    rw (less, same) refl

-- without steps there are only the places before and behind boxes
pub no_steps : (graph : Graph) (draft : Draft) →
    draft.places ≡ length graph.boxes + length graph.boxes → draft.steps.items ≡ [] →
    IsDraft graph draft
no_steps graph draft places none =
    let count = length graph.boxes in (
      spots count,
      record {
        room = omega (arith, places);
        first = λ node inside. spots_first count node inside;
        second = λ node inside. spots_second count node;
        from = λ s here. absurd (nothing_in (subst (λ (l : List Step). Contains l s) none here));
        to = λ s here. absurd (nothing_in (subst (λ (l : List Step). Contains l s) none here));
        fits = λ s here. absurd (nothing_in (subst (λ (l : List Step). Contains l s) none here));
      },
    )

-- at the start no box is done
pub none_done : (graph : Graph) (draft : Draft) → AreBoxesDone graph 0 draft
none_done graph draft = record {
  crosses = λ k below. absurd (omega (arith, below));
  goes = λ k below. absurd (omega (arith, below));
  good = λ k below. absurd (omega (arith, below));
}
