-- Ranks fall along what may take nothing, so no loop takes nothing and no unit begins with itself.
use Rattle.std.proofs.Common.{arith, ◌≡◌, ◌⊎◌, inl, inr, ℕ, ◌+◌, ◌<◌, ◌≤◌, List, [], ◌∷◌, ◌++◌, true, refl, sym, ap, subst, ◌∙◌, map}
use Rattle.std.specs.Prelude.{Contains}
use Rattle.ux_net.specs.declared.label.Label.{Label}
use Rattle.ux_net.specs.declared.label.Label.TheVariants.{Empty, CaseFolded, CaseExact, Mask, Brace, Space, NoSpace, Begin, End, Positive, Negative, ContextEnd, Cut, Call}
use Rattle.ux_net.specs.declared.net_graph.NetGraph.{NetGraph}
use Rattle.ux_net.specs.Closers.{ClosesInto}
use Rattle.ux_net.specs.Measured.{Falls, FallsOver, IsLower, IsMeasured, must, rank_of}
use Rattle.ux_net.specs.Nets.{IsNetStep, net_grammar, states_of}
use Rattle.ux_net.specs.Words.{Sign, Letter, plain, piece, context, opens, mark_of, letters, put_by, Step, Run, stop, along, across, IsWord}
use Rattle.ux_net.specs.Nullable.{IsFree, IsSilent, none, silent, call}
use Rattle.ux_admission.specs.Admissible.{EntersAt, EntersInTurns, Enters, IsAdmissible, IsLeftRecursive, IsOnEmptyLoop, IsOnMove, LeadsFreely, MovesFreely, along_step, over_context, in_front, at_opening, by_call, by_opening, once, more}

module _ (net : List NetGraph) (measured : IsMeasured net) where
  abbrev rank : (g a : ℕ) → ℕ
  rank g a = rank_of net g a

  abbrev IsRun : (g a b : ℕ) → List Letter → Type 0
  IsRun g a b word = Run g ((net_grammar net).graph g) a b word

  -- a letter that takes no token; what it calls has an end before one
  abbrev Idles : Letter → Type 0
  Idles (plain (Call h)) = must net h 0 ≡ 0
  Idles letter = IsSilent letter

  abbrev AllIdle : List Letter → Type 0
  AllIdle [] = Unit {0}
  AllIdle (letter ∷ word) = Idles letter × AllIdle word

  idle_front : (front back : List Letter) → AllIdle (front ++ back) → AllIdle front
  idle_front [] back idle = tt
  idle_front (letter ∷ front) back idle = (idle.0, idle_front front back idle.1)

  idle_back : (front back : List Letter) → AllIdle (front ++ back) → AllIdle back
  idle_back [] back idle = idle
  idle_back (letter ∷ front) back idle = idle_back front back idle.1

  -- what an edge's falling says along its step
  falls_at : (g : ℕ) (s : Step) → (step : IsNetStep (states_of net g) s) →
      Falls net g s.from s.to step.edge.label
  falls_at g s step =
      subst (λ b. Falls net g s.from b step.edge.label) (sym step.to)
      (measured.falls g s.from step.state step.edge step.found step.inside)

  -- along a step that takes nothing the rank falls
  lower_label : (g a b : ℕ) (x : Label) → AllIdle (letters (x ∷ [])) → Falls net g a b x →
      IsLower net g a b
  lower_label g a b Empty idle falls = falls
  lower_label g a b NoSpace idle falls = falls
  lower_label g a b (Begin name) idle falls = falls
  lower_label g a b (End name) idle falls = falls
  lower_label g a b Cut idle falls = falls
  lower_label g a b (Call h) idle falls = falls.1 idle.0
  lower_label g a b (CaseFolded text) idle falls = let no = idle.0 in cc
  lower_label g a b (CaseExact text) idle falls = let no = idle.0 in cc
  lower_label g a b (Mask mask) idle falls = let no = idle.0 in cc
  lower_label g a b (Brace text) idle falls = let no = idle.0 in cc
  lower_label g a b Space idle falls = let no = idle.0 in cc
  lower_label g a b Positive idle falls = let no = idle.0 in cc
  lower_label g a b Negative idle falls = let no = idle.0 in cc
  lower_label g a b ContextEnd idle falls = let no = idle.0 in cc

  lower_step : (g : ℕ) (s : Step) → IsNetStep (states_of net g) s → AllIdle (letters s.labels) →
      IsLower net g s.from s.to
  lower_step g s step idle =
      lower_label g s.from s.to step.edge.label
      (subst (λ (l : List Label). AllIdle (letters l)) step.label idle) (falls_at g s step)

  -- the same over a context, and into one
  over_label : (g a b : ℕ) (sign : Sign) (x : Label) → mark_of (x ∷ []) ≡ opens sign →
      Falls net g a b x → FallsOver net g a b
  over_label g a b sign Positive mark falls = falls
  over_label g a b sign Negative mark falls = falls
  over_label g a b sign Empty mark falls = cc
  over_label g a b sign NoSpace mark falls = cc
  over_label g a b sign (Begin name) mark falls = cc
  over_label g a b sign (End name) mark falls = cc
  over_label g a b sign Cut mark falls = cc
  over_label g a b sign (Call h) mark falls = cc
  over_label g a b sign (CaseFolded text) mark falls = cc
  over_label g a b sign (CaseExact text) mark falls = cc
  over_label g a b sign (Mask mask) mark falls = cc
  over_label g a b sign (Brace text) mark falls = cc
  over_label g a b sign Space mark falls = cc
  over_label g a b sign ContextEnd mark falls = cc

  over_step : (g : ℕ) (sign : Sign) (s : Step) → IsNetStep (states_of net g) s →
      mark_of s.labels ≡ opens sign → FallsOver net g s.from s.to
  over_step g sign s step mark =
      over_label g s.from s.to sign step.edge.label
      (sym (ap mark_of step.label) ∙ mark) (falls_at g s step)

  -- along a run that takes nothing the rank doesn't rise
  record StaysLow (g a b : ℕ) : Type 0 where
    pub low : rank g b ≤ rank g a
    pub must_stay : must net g a ≤ must net g b

  low_behind : (g a b c : ℕ) → IsLower net g a b → StaysLow g b c → StaysLow g a c
  low_behind g a b c first later = record {
    low = let one = first.0 in let two = later.low in omega (arith, one, two);
    must_stay = let one = first.1 in let two = later.must_stay in omega (arith, one, two);
  }

  low_run : (g : ℕ) {a b : ℕ} {word : List Letter} → IsRun g a b word → AllIdle word → StaysLow g a b
  low_run g stop idle = record { low = omega arith; must_stay = omega arith }
  low_run g (along {b = b} {word = word} s inside mark run) idle =
      let front = idle_front (put_by s ++ letters s.labels) word idle in
      low_behind g s.from s.to b
      (lower_step g s inside (idle_back (put_by s) (letters s.labels) front))
      (low_run g run (idle_back (put_by s ++ letters s.labels) word idle))
  low_run g (across {b = b} {body = body} {word = word} sign s t inside mark run_in inside' mark' run) idle =
      let into : ClosesInto (net_grammar net) g s.to t.to =
      (body, record { step = t; inside = inside'; closed = mark'; after = refl; run = run_in }) in
      low_behind g s.from t.to b ((over_step g sign s inside mark).1 t.to into)
      (low_run g run (idle_back (put_by s) (context sign g s.to t.to ∷ word) idle).1)

  -- a graph that has such a word has an end before a token
  called_free : (h : ℕ) (word : List Letter) → IsWord h ((net_grammar net).graph h) word →
      AllIdle word → must net h 0 ≡ 0
  called_free h word is idle =
      let low = (low_run h is.run idle).must_stay in
      let ends = measured.ends h is.last is.ends.state is.ends.found is.ends.final in
      omega (arith, low, ends)

  idle_letter : (letter : Letter) → IsSilent letter → Idles letter
  idle_letter (plain Empty) is = is
  idle_letter (plain NoSpace) is = is
  idle_letter (plain (Begin name)) is = is
  idle_letter (plain (End name)) is = is
  idle_letter (plain Cut) is = is
  idle_letter (plain (Call h)) is = cc
  idle_letter (plain (CaseFolded text)) is = is
  idle_letter (plain (CaseExact text)) is = is
  idle_letter (plain (Mask mask)) is = is
  idle_letter (plain (Brace text)) is = is
  idle_letter (plain Space) is = is
  idle_letter (plain Positive) is = is
  idle_letter (plain Negative) is = is
  idle_letter (plain ContextEnd) is = is
  idle_letter (piece part) is = tt
  idle_letter (context sign g opening closing) is = tt

  idle_word : {word : List Letter} → IsFree (net_grammar net) word → AllIdle word
  idle_word none = tt
  idle_word (silent {letter = letter} is rest) = (idle_letter letter is, idle_word rest)
  idle_word (call {h = h} {called = called} word free rest) =
      (called_free h called word (idle_word free), idle_word rest)

  low_leads : (g a b : ℕ) → LeadsFreely (net_grammar net) g a b → rank g b ≤ rank g a
  low_leads g a b leads = (low_run g leads.1 (idle_word leads.2)).low

  -- no loop takes nothing
  lower_move : (g a b : ℕ) → MovesFreely (net_grammar net) g a b → rank g b < rank g a
  lower_move g a b (along_step s inside free) = (lower_step g s inside (idle_word free)).0
  lower_move g a b (over_context sign s inside mark into) =
      ((over_step g sign s inside mark).1 b into).0

  lower_on_move : (g node a b : ℕ) → IsOnMove (net_grammar net) g node a b → rank g b < rank g a
  lower_on_move g node a b (in_front moves) = lower_move g a b moves
  lower_on_move g node a b (at_opening sign s inside mark into) =
      lower_move g a b (over_context sign s inside mark into)

  no_empty_loop : (g node : ℕ) → IsOnEmptyLoop (net_grammar net) g node → ⊥
  no_empty_loop g node loops =
      let down = lower_on_move g node loops.from loops.next loops.moves in
      let back = low_leads g loops.next loops.from loops.back in
      absurd (omega (arith, down, back))

  -- no unit begins with itself
  called_first : (x : Label) (h : ℕ) (front back : List Label) → x ∷ [] ≡ front ++ Call h ∷ back →
      x ≡ Call h
  called_first x h [] back is = cc
  called_first x h (y ∷ []) back is = cc
  called_first x h (y ∷ z ∷ front) back is = cc

  call_label : (g a b h : ℕ) (x : Label) → x ≡ Call h → Falls net g a b x → rank h 0 < rank g a
  call_label g a b h x is falls =
      let at : Falls net g a b (Call h) = subst (λ (y : Label). Falls net g a b y) is falls in at.0

  lower_entered : (g h v : ℕ) (s : Step) → IsNetStep (states_of net g) s →
      EntersAt (net_grammar net) g s h v → rank h v < rank g s.from
  lower_entered g h v s inside (by_call front back is free) =
      call_label g s.from s.to h inside.edge.label
      (called_first inside.edge.label h front back (sym inside.label ∙ is)) (falls_at g s inside)
  lower_entered g h v s inside (by_opening sign mark) = (over_step g sign s inside mark).0

  lower_enters : (g u h v node : ℕ) → Enters (net_grammar net) g u h v node → rank h v < rank g u
  lower_enters g u h v node enters =
      let leads = low_leads g u enters.step.from enters.leads in
      let down = lower_entered g h v enters.step enters.of_graph enters.enters in
      omega (arith, leads, down)

  lower_turns : {g u h v : ℕ} → EntersInTurns (net_grammar net) g u h v → rank h v < rank g u
  lower_turns (once {g = g} {u = u} {h = h} {v = v} {node = node} enters) =
      lower_enters g u h v node enters
  lower_turns (more {g = g} {u = u} {h = h} {v = v} {node = node} enters turns) =
      let first = lower_enters g u h v node enters in
      let later = lower_turns turns in
      omega (arith, first, later)

  no_left_recursion : (g node : ℕ) → IsLeftRecursive (net_grammar net) g node → ⊥
  no_left_recursion g node recursive =
      let down = lower_enters g recursive.first recursive.entered_graph recursive.entered_first node
      recursive.enters in
      elim recursive.returns [
        | inl same ↦
            let at : rank g recursive.first < rank g recursive.first =
            subst (λ v. rank g v < rank g recursive.first) same.1
            (subst (λ h. rank h recursive.entered_first < rank g recursive.first) same.0 down) in
            absurd (omega (arith, at))
        | inr turns ↦
            let back = lower_turns turns in
            absurd (omega (arith, down, back))
      ]

  pub measured_admissible : IsAdmissible (net_grammar net)
  measured_admissible =
      record { no_empty_loop = no_empty_loop; no_left_recursion = no_left_recursion }
