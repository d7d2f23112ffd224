-- Levels don't rise along runs and into what they use, and fall into contexts that may not follow. So
-- none of these uses the unit that has it.
use Rattle.std.proofs.Common.{arith, ◌≡◌, ◌⊎◌, inl, inr, ℕ, ◌<◌, ◌≤◌, List, [], ◌∷◌, refl, sym, ap, subst, ◌∙◌}
use Rattle.std.specs.Prelude.{Contains}
use Rattle.ux_base.proofs.Lists.{first_or_later, nothing_in}
use Rattle.ux_net.specs.declared.label.Label.{Label}
use Rattle.ux_net.specs.declared.label.Label.TheVariants.{Empty, CaseFolded, CaseExact, Mask, Brace, Space, NoSpace, Begin, End, Positive, Negative, ContextEnd, Cut, Call}
use Rattle.ux_net.specs.declared.net_graph.NetGraph.{NetGraph}
use Rattle.ux_net.specs.Marked.{AreMarksOf, HoldAlong, IsMarked, Keeps, Marks, StandsBehind}
use Rattle.ux_net.specs.Nets.{IsNetStep, net_grammar, states_of}
use Rattle.ux_net.specs.Words.{Sign, negative, Letter, ordinary, opens, closes, mark_of, Step, Run, stop, along, across}
use Rattle.ux_admission.specs.NegativeRecursion.{HasNoNegativeRecursion, IsNegativeRecursive, LeadsTo, Uses, UsesInTurns, called, opened, once, more}

module _ (net : List NetGraph) (top : ℕ) (marks : Marks) (are : AreMarksOf net top marks) where
  abbrev IsRun : (g a b : ℕ) → List Letter → Type 0
  IsRun g a b word = Run g ((net_grammar net).graph g) a b word

  abbrev At : (g a b : ℕ) → Label → Type 0
  At g a b x = HoldAlong marks g a b x

  holds_at : (g : ℕ) (s : Step) → (step : IsNetStep (states_of net g) s) →
      At g s.from s.to step.edge.label
  holds_at g s step =
      subst (λ b. At g s.from b step.edge.label) (sym step.to)
      (are.edges g s.from step.state step.edge step.found step.inside)

  keeps_label : (g a b : ℕ) (x : Label) → mark_of (x ∷ []) ≡ ordinary → At g a b x →
      Keeps marks g a b
  keeps_label g a b Empty mark at = at.keeps
  keeps_label g a b NoSpace mark at = at.keeps
  keeps_label g a b (Begin name) mark at = at.keeps
  keeps_label g a b (End name) mark at = at.keeps
  keeps_label g a b Cut mark at = at.keeps
  keeps_label g a b (Call h) mark at = at.0
  keeps_label g a b (CaseFolded text) mark at = at
  keeps_label g a b (CaseExact text) mark at = at
  keeps_label g a b (Mask mask) mark at = at
  keeps_label g a b (Brace text) mark at = at
  keeps_label g a b Space mark at = at
  keeps_label g a b Positive mark at = cc
  keeps_label g a b Negative mark at = cc
  keeps_label g a b ContextEnd mark at = cc

  keeps_step : (g : ℕ) (s : Step) → IsNetStep (states_of net g) s →
      mark_of s.labels ≡ ordinary → Keeps marks g s.from s.to
  keeps_step g s step mark =
      keeps_label g s.from s.to step.edge.label (sym (ap mark_of step.label) ∙ mark)
      (holds_at g s step)

  -- what holds of a step that opens a context
  record Opens (g a b : ℕ) : Type 0 where
    pub level : marks.level g b ≤ marks.level g a
    pub behind : StandsBehind marks g a b

  opens_label : (g a b : ℕ) (sign : Sign) (x : Label) → mark_of (x ∷ []) ≡ opens sign → At g a b x →
      Opens g a b
  opens_label g a b sign Positive mark at = record { level = at.0; behind = at.2 }
  opens_label g a b sign Negative mark at =
      record { level = let falls = at.0 in omega (arith, falls); behind = at.2 }
  opens_label g a b sign Empty mark at = cc
  opens_label g a b sign NoSpace mark at = cc
  opens_label g a b sign (Begin name) mark at = cc
  opens_label g a b sign (End name) mark at = cc
  opens_label g a b sign Cut mark at = cc
  opens_label g a b sign (Call h) mark at = cc
  opens_label g a b sign (CaseFolded text) mark at = cc
  opens_label g a b sign (CaseExact text) mark at = cc
  opens_label g a b sign (Mask mask) mark at = cc
  opens_label g a b sign (Brace text) mark at = cc
  opens_label g a b sign Space mark at = cc
  opens_label g a b sign ContextEnd mark at = cc

  opens_step : (g : ℕ) (sign : Sign) (s : Step) → IsNetStep (states_of net g) s →
      mark_of s.labels ≡ opens sign → Opens g s.from s.to
  opens_step g sign s step mark =
      opens_label g s.from s.to sign step.edge.label (sym (ap mark_of step.label) ∙ mark)
      (holds_at g s step)

  negative_label : (g a b : ℕ) (x : Label) → mark_of (x ∷ []) ≡ opens negative → At g a b x →
      marks.level g b < marks.level g a
  negative_label g a b Negative mark at = at.0
  negative_label g a b Positive mark at = cc
  negative_label g a b Empty mark at = cc
  negative_label g a b NoSpace mark at = cc
  negative_label g a b (Begin name) mark at = cc
  negative_label g a b (End name) mark at = cc
  negative_label g a b Cut mark at = cc
  negative_label g a b (Call h) mark at = cc
  negative_label g a b (CaseFolded text) mark at = cc
  negative_label g a b (CaseExact text) mark at = cc
  negative_label g a b (Mask mask) mark at = cc
  negative_label g a b (Brace text) mark at = cc
  negative_label g a b Space mark at = cc
  negative_label g a b ContextEnd mark at = cc

  closes_label : (g a b : ℕ) (x : Label) → mark_of (x ∷ []) ≡ closes → At g a b x →
      Contains (marks.closers g a) b
  closes_label g a b ContextEnd mark at = at
  closes_label g a b Negative mark at = cc
  closes_label g a b Positive mark at = cc
  closes_label g a b Empty mark at = cc
  closes_label g a b NoSpace mark at = cc
  closes_label g a b (Begin name) mark at = cc
  closes_label g a b (End name) mark at = cc
  closes_label g a b Cut mark at = cc
  closes_label g a b (Call h) mark at = cc
  closes_label g a b (CaseFolded text) mark at = cc
  closes_label g a b (CaseExact text) mark at = cc
  closes_label g a b (Mask mask) mark at = cc
  closes_label g a b (Brace text) mark at = cc
  closes_label g a b Space mark at = cc

  -- along a run the level doesn't rise, and what closes behind its end is told at its beginning
  keeps_run : (g : ℕ) {a b : ℕ} {word : List Letter} → IsRun g a b word → Keeps marks g a b
  keeps_run g stop = record { closers = λ c has. has; level = omega arith }
  keeps_run g (along s inside mark run) =
      let first = keeps_step g s inside mark in
      let later = keeps_run g run in
      record {
        closers = λ c has. first.closers c (later.closers c has);
        level = let one = first.level in let two = later.level in omega (arith, one, two);
      }
  keeps_run g (across sign s t inside mark body inside' mark' run) =
      let told = closes_label g t.from t.to inside'.edge.label
      (sym (ap mark_of inside'.label) ∙ mark') (holds_at g t inside') in
      let in_body = keeps_run g body in
      let stands = (opens_step g sign s inside mark).behind t.to (in_body.closers t.to told) in
      let first = stands.keeps in
      let later = keeps_run g run in
      record {
        closers = λ c has. first.closers c (later.closers c has);
        level = let one = first.level in let two = later.level in omega (arith, one, two);
      }

  -- what a unit uses has no higher level
  call_label : (g a b h : ℕ) (x : Label) → Contains (x ∷ []) (Call h) → At g a b x →
      marks.level h 0 ≤ marks.level g a
  call_label g a b h x has at = elim (first_or_later x [] (Call h) has) [
    | inl is ↦
        let calls : At g a b (Call h) = subst (λ (y : Label). At g a b y) is at in calls.1
    | inr later ↦ absurd (nothing_in later)
  ]

  used_level : (g first h next : ℕ) → Uses (net_grammar net) g first h next →
      marks.level h next ≤ marks.level g first
  used_level g first h next (called step leads has) =
      let run = (keeps_run g leads.run).level in
      let inside = leads.of_graph in
      let into = call_label g step.from step.to h inside.edge.label
      (subst (λ (l : List Label). Contains l (Call h)) inside.label has) (holds_at g step inside) in
      omega (arith, run, into)
  used_level g first h next (opened {sign = sign} step leads mark) =
      let run = (keeps_run g leads.run).level in
      let into = (opens_step g sign step leads.of_graph mark).level in
      omega (arith, run, into)

  used_in_turns : {g a h b : ℕ} → UsesInTurns (net_grammar net) g a h b →
      marks.level h b ≤ marks.level g a
  used_in_turns (once {g = g} {a = a} {h = h} {b = b} uses) = used_level g a h b uses
  used_in_turns (more {g = g} {a = a} {h = h} {b = b} uses turns) =
      let first = used_level g a h b uses in
      let later = used_in_turns turns in
      omega (arith, first, later)

  pub marked_no_recursion : HasNoNegativeRecursion (net_grammar net)
  marked_no_recursion g recursive =
      let has = recursive.has in
      let inside = has.leads.of_graph in
      let run = (keeps_run g has.leads.run).level in
      let falls = negative_label g has.step.from has.step.to inside.edge.label
      (sym (ap mark_of inside.label) ∙ has.refuses) (holds_at g has.step inside) in
      let at : marks.level g recursive.opening < marks.level g has.step.from =
      subst (λ n. marks.level g n < marks.level g has.step.from) has.to falls in
      let back = used_in_turns recursive.uses in
      absurd (omega (arith, run, at, back))

-- a net that has marks has no context that uses what has it
pub no_recursion : (net : List NetGraph) → IsMarked net → HasNoNegativeRecursion (net_grammar net)
no_recursion net marked = marked_no_recursion net marked.top marked.marks marked.are
