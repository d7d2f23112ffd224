-- Where no context that may not follow uses what has it, no loop takes nothing and no unit begins with
-- itself, that holds of the flat graph too: what a run of it passes in called layout is in the grammar
-- a call.
use Rattle.std.proofs.Common.{arith, ◌≡◌, ◌⊎◌, inl, inr, ℕ, List, [], ◌∷◌, ◌++◌, sym, subst, subst₂, ap, refl, ◌∙◌}
use Rattle.std.specs.Prelude.{Contains}
use Rattle.std.proofs.lemmas.List.Elements.{Contains-append_left, Contains-append_right, Contains-push, Contains-push_cases}
use Rattle.ux_net.specs.declared.label.Label.{Label}
use Rattle.ux_net.specs.declared.label.Label.TheVariants as label
use Rattle.ux_net.specs.Words.{Sign, negative, Letter, Step, StepGraph, Grammar, opens, closes, mark_of, Run}
use Rattle.ux_net.specs.Nullable.{IsFree, IsNullable}
use Rattle.ux_admission.specs.Admissible.{LeadsFreely, MovesFreely, along_step, over_context, IsOnMove, in_front, at_opening, IsUnit, EntersAt, by_call, by_opening, Enters, EntersInTurns, IsOnEmptyLoop, IsLeftRecursive, IsAdmissible}
use Rattle.ux_net.specs.Nullable as free
use Rattle.ux_admission.specs.Admissible as entering
use Rattle.ux_admission.specs.NegativeRecursion.{LeadsTo, Uses, called, opened, UsesInTurns, IsNegativeRecursive, HasNoNegativeRecursion}
use Rattle.ux_admission.specs.NegativeRecursion as uses
use Rattle.ux_flatten.proofs.FlatGraphs.{IsUncalled, Layout, ClosesContexts, Stands, IsCopied, own, enters, leaves, stops, IsFlat}
use Rattle.ux_admission.proofs.FreeLemmas.{free_parts}
use Rattle.ux_flatten.proofs.Tours as tours
use Rattle.ux_flatten.proofs.Tours.{OpenedTo, Leg, Called, Dive, here, below, Tour, down, up}

-- a unit uses another in turns, which uses a third
turns_joined : {grammar : Grammar} {g a h b k c : ℕ} → UsesInTurns grammar g a h b →
    UsesInTurns grammar h b k c → UsesInTurns grammar g a k c
turns_joined (uses.once u) v = uses.more u v
turns_joined (uses.more u rest) v = uses.more u (turns_joined rest v)

entries_joined : {grammar : Grammar} {g a h b k c : ℕ} → EntersInTurns grammar g a h b →
    EntersInTurns grammar h b k c → EntersInTurns grammar g a k c
entries_joined (entering.once u) v = entering.more u v
entries_joined (entering.more u rest) v = entering.more u (entries_joined rest v)

module _ (grammar : Grammar) (layout : Layout) (stop_text : List ℕ) (whole : Grammar) (main depth : ℕ)
    (is : IsFlat grammar layout stop_text (whole.graph 1) main depth) (closed : ClosesContexts grammar)
    (only : (g : ℕ) (s : Step) → (whole.graph g).IsStep s → g ≡ 1) where
  abbrev flat : StepGraph
  flat = whole.graph 1

  abbrev At : ℕ → ℕ → ℕ → Type 0
  At = Stands grammar layout stop_text flat

  abbrev graph_in : ℕ → StepGraph
  graph_in c = grammar.graph (layout.graph c)

  abbrev ADive : (c a t b : ℕ) → List Letter → Type 0
  ADive = Dive grammar layout stop_text whole

  abbrev ATour : (x y c a t b : ℕ) → List Letter → Type 0
  ATour = Tour grammar layout stop_text whole

  abbrev pub Arrives : (x y c a : ℕ) → List Letter → Type 0
  Arrives = tours.Arrives grammar layout stop_text whole main depth is closed

  pub toured : {x y : ℕ} {word : List Letter} → Run 1 flat x y word → (c a : ℕ) → At x c a →
      Arrives x y c a word
  toured run c a st = tours.run_back grammar layout stop_text whole main depth is closed run c a st

  abbrev pub OwnStep : Step → Type 0
  OwnStep = tours.OwnStep grammar layout stop_text whole main depth is closed

  pub own_opening : (s : Step) (sign : Sign) → flat.IsStep s → mark_of s.labels ≡ opens sign → OwnStep s
  own_opening s sign inside ope = tours.own_step grammar layout stop_text whole main depth is closed s
      (is.steps s inside)
      (tours.opening_marked grammar layout stop_text whole main depth is closed s sign ope)

  pub own_closing : (s : Step) → flat.IsStep s → mark_of s.labels ≡ closes → OwnStep s
  own_closing s inside clo = tours.own_step grammar layout stop_text whole main depth is closed s
      (is.steps s inside)
      (tours.closing_marked grammar layout stop_text whole main depth is closed s clo)

  -- no step of the flat graph calls
  pub one_label : (s : Step) → IsCopied grammar layout stop_text flat s →
      (x : Label) × (s.labels ≡ x ∷ []) × IsUncalled x
  one_label s (own c t o) = (o.label, o.same_labels ∙ o.labels, o.uncalled)
  one_label s (enters c t h e) = (label.Empty, e.empty, tt)
  one_label s (leaves c a l) = (label.Empty, l.empty, tt)
  one_label s (stops c t h z) = (label.CaseExact stop_text, z.stopped, tt)

  never_calls : (g h : ℕ) (s : Step) → (whole.graph g).IsStep s → Contains s.labels (label.Call h) → ⊥
  never_calls g h s inside there =
      let l = one_label s (is.steps s (subst (λ g. (whole.graph g).IsStep s) (only g s inside) inside)) in
      let e = elim (Contains-push_cases [] l.0 (label.Call h)
      (subst (λ (l : List Label). Contains l (label.Call h)) l.1 there)) as (λ z. l.0 ≡ label.Call h) [
        | inl none ↦ absurd (omega (arith, none.1))
        | inr e ↦ e
      ] in
      subst IsUncalled e l.2

  -- a place of the copy at which a unit begins: the start of the root, or where a context opens
  abbrev pub BeginsAt : (c a : ℕ) → Type 0
  BeginsAt c a = ((c ≡ layout.root) × (a ≡ (graph_in c).start)) ⊎ OpenedTo (graph_in c) a

  pub record Begun (x : ℕ) : Type 0 where
    pub c : ℕ
    pub a : ℕ
    pub at : At x c a
    pub begins : BeginsAt c a

  abbrev opened_unit : (s : Step) (sign : Sign) → OwnStep s → mark_of s.labels ≡ opens sign → Begun s.to
  opened_unit s sign o ope = record {
    c = o.c;
    a = o.t.to;
    at = o.own.to;
    begins = inr (record {
      sign = sign;
      step = o.t;
      inside = o.own.inside;
      opens = subst (λ l. mark_of l ≡ opens sign) o.own.same_labels ope;
      to = refl;
    });
  }

  pub unit_at : (x : ℕ) → IsUnit whole 1 x → Begun x
  unit_at x (inl e) = record {
    c = layout.root;
    a = (grammar.graph main).start;
    at = subst (λ x. At x layout.root (grammar.graph main).start) (sym e) is.start;
    begins = inl (refl, ap (λ g. (grammar.graph g).start) (sym is.of_main));
  }
  unit_at x (inr o) = subst Begun o.1.to
      (opened_unit o.1.step o.0 (own_opening o.1.step o.0 o.1.of_graph o.1.opens) o.1.opens)

  pub old_unit : (c a : ℕ) → BeginsAt c a → IsUnit grammar (layout.graph c) a
  old_unit c a (inl e) = inl e.1
  old_unit c a (inr o) =
      inr (o.sign, record { step = o.step; of_graph = o.inside; to = o.to; opens = o.opens })

  -- from where a unit begins no run leaves its copy but into called ones
  pub dive : {x y c a t b : ℕ} {new : List Letter} → BeginsAt c a → ATour x y c a t b new → ADive c a t b new
  dive begins (down d) = d
  dive (inl root) (up z last first second leg ends inner at front back rest e) = absurd (inner root.0)
  dive {c = c} (inr o) (up z last first second leg ends inner at front back rest e) =
      absurd (closed.no_end (layout.graph c) o.sign o.step last leg.word o.inside o.opens
      (subst (λ a. Run (layout.graph c) (graph_in c) a last leg.word) (sym o.to) leg.run) ends)

  -- Uses.
  call_used : (c a n : ℕ) (step : Step) {first : List Letter} → Leg grammar layout stop_text whole c a step.from first →
      Called grammar layout stop_text whole c n step →
      Uses grammar (layout.graph c) a (layout.graph n) (graph_in n).start
  call_used c a n step leg call =
      subst (λ h. Uses grammar (layout.graph c) a h (grammar.graph h).start) (sym call.graph)
      (called step (record { of_graph = call.inside; word = leg.word; run = leg.run })
      (subst (λ (l : List Label). Contains l (label.Call call.h)) (sym call.labels)
      (Contains-push [] (label.Call call.h))))

  dive_uses : {c a t b : ℕ} {new : List Letter} → ADive c a t b new → (u : Step) (sign : Sign) →
      (graph_in t).IsStep u → u.from ≡ b → mark_of u.labels ≡ opens sign →
      UsesInTurns grammar (layout.graph c) a (layout.graph t) u.to
  dive_uses {c = c} {a = a} (here leg) u sign inside from ope =
      uses.once (opened u (record {
        of_graph = inside;
        word = leg.word;
        run = subst (λ b. Run (layout.graph c) (graph_in c) a b leg.word) (sym from) leg.run;
      }) ope)
  dive_uses {c = c} {a = a} (below {n = n} step first second leg call rest e) u sign inside from ope =
      uses.more (call_used c a n step leg call) (dive_uses rest u sign inside from ope)

  -- into the start of the last called copy
  dive_calls : {n s t b : ℕ} {second : List Letter} → ADive n s t b second →
      s ≡ (graph_in n).start → (c a : ℕ) → Uses grammar (layout.graph c) a (layout.graph n) s →
      UsesInTurns grammar (layout.graph c) a (layout.graph t) (graph_in t).start
  dive_calls {n = n} (here leg) e c a first =
      uses.once (subst (λ s. Uses grammar (layout.graph c) a (layout.graph n) s) e first)
  dive_calls {n = n} {s = s} (below {n = m} step before second leg call rest w) e c a first =
      uses.more first (dive_calls rest refl n s (call_used n s m step leg call))

  -- what a unit of the flat graph uses, told in the layout
  pub record UsedAt (c a x : ℕ) : Type 0 where
    pub unit : Begun x
    pub uses : UsesInTurns grammar (layout.graph c) a (layout.graph unit.c) unit.a

  use_back : {g x h y : ℕ} → Uses whole g x h y → g ≡ 1 → (c a : ℕ) → At x c a → BeginsAt c a →
      (h ≡ 1) × UsedAt c a y
  use_back {g = g} (called {h = h} s leads there) e c a at begins = absurd (never_calls g h s leads.of_graph there)
  use_back {g = g} {x = x} (opened {sign = sign} s leads ope) e c a at begins =
      let inside : flat.IsStep s = subst (λ g. (whole.graph g).IsStep s) e leads.of_graph in
      let run : Run 1 flat x s.from leads.word =
      subst (λ g. Run g (whole.graph g) x s.from leads.word) e leads.run in
      let o = own_opening s sign inside ope in
      let r = toured run c a at in
      let same : r.t ≡ o.c = sym r.at.copy ∙ o.own.from.copy in
      let from : o.t.from ≡ r.b = sym o.own.from.state ∙ r.at.state in
      let d : ADive c a o.c r.b leads.word = subst (λ t. ADive c a t r.b leads.word) same (dive begins r.tour) in (
        e,
        record {
          unit = opened_unit s sign o ope;
          uses = dive_uses d o.t sign o.own.inside from
              (subst (λ l. mark_of l ≡ opens sign) o.own.same_labels ope);
        },
      )

  uses_back : {g x h y : ℕ} → UsesInTurns whole g x h y → g ≡ 1 → (c a : ℕ) → At x c a →
      BeginsAt c a → UsedAt c a y
  uses_back (uses.once u) e c a at begins = (use_back u e c a at begins).1
  uses_back (uses.more u rest) e c a at begins =
      let first = use_back u e c a at begins in
      let one = first.1.unit in
      let later = uses_back rest first.0 one.c one.a one.at one.begins in
      record { unit = later.unit; uses = turns_joined first.1.uses later.uses }

  -- the unit that a dive ends in has the negative context
  has_negative : {c a t b : ℕ} {new : List Letter} → ADive c a t b new → (u : Step) →
      (graph_in t).IsStep u → u.from ≡ b → mark_of u.labels ≡ opens negative →
      UsesInTurns grammar (layout.graph t) u.to (layout.graph c) a →
      IsNegativeRecursive grammar (layout.graph t)
  has_negative {c = c} {a = a} (here leg) u inside from ope turns = record {
    first = a;
    opening = u.to;
    has = record {
      step = u;
      leads = record {
        of_graph = inside;
        word = leg.word;
        run = subst (λ b. Run (layout.graph c) (graph_in c) a b leg.word) (sym from) leg.run;
      };
      to = refl;
      refuses = ope;
    };
    uses = turns;
  }
  has_negative {c = c} {a = a} {t = t} (below {n = n} step first second leg call rest e) u inside from ope turns =
      let last = tours.dive_end grammar layout stop_text whole main depth is closed rest refl in
      record {
        first = (graph_in t).start;
        opening = u.to;
        has = record {
          step = u;
          leads = record {
            of_graph = inside;
            word = last.0;
            run = subst (λ b. Run (layout.graph t) (graph_in t) (graph_in t).start b last.0) (sym from) last.1;
          };
          to = refl;
          refuses = ope;
        };
        uses = turns_joined turns (dive_calls rest refl c a (call_used c a n step leg call));
      }

  pub no_recursion : HasNoNegativeRecursion grammar → HasNoNegativeRecursion whole
  no_recursion none g bad =
      let s = bad.has.step in
      let e = only g s bad.has.leads.of_graph in
      let inside : flat.IsStep s = subst (λ g. (whole.graph g).IsStep s) e bad.has.leads.of_graph in
      let o = own_opening s negative inside bad.has.refuses in
      let body = opened_unit s negative o bad.has.refuses in
      let back = uses_back bad.uses e body.c body.a
      (subst (λ x. At x body.c body.a) bad.has.to body.at) body.begins in
      let first = back.unit in
      let run : Run 1 flat bad.first s.from bad.has.leads.word =
      subst (λ g. Run g (whole.graph g) bad.first s.from bad.has.leads.word) e bad.has.leads.run in
      let r = toured run first.c first.a first.at in
      let same : r.t ≡ o.c = sym r.at.copy ∙ o.own.from.copy in
      let from : o.t.from ≡ r.b = sym o.own.from.state ∙ r.at.state in
      let d : ADive first.c first.a o.c r.b bad.has.leads.word =
      subst (λ t. ADive first.c first.a t r.b bad.has.leads.word) same (dive first.begins r.tour) in
      none (layout.graph o.c) (has_negative d o.t o.own.inside from
      (subst (λ l. mark_of l ≡ opens negative) o.own.same_labels bad.has.refuses) back.uses)

  -- Entries.
  dive_enters : {c a t b : ℕ} {new : List Letter} → ADive c a t b new → IsFree whole new →
      (u : Step) (sign : Sign) → (graph_in t).IsStep u → u.from ≡ b → mark_of u.labels ≡ opens sign →
      EntersInTurns grammar (layout.graph c) a (layout.graph t) u.to
  dive_enters {c = c} {a = a} (here leg) f u sign inside from ope = entering.once (record {
    step = u;
    of_graph = inside;
    to_node = refl;
    leads = (
      leg.word,
      subst (λ b. Run (layout.graph c) (graph_in c) a b leg.word) (sym from) leg.run,
      leg.free f,
    );
    enters = by_opening sign ope;
  })
  dive_enters {c = c} {a = a} {t = t} (below {n = n} step first second leg call rest e) f u sign inside from ope =
      let both : IsFree whole (first ++ second) = subst (λ w. IsFree whole w) e f in
      let one : Enters grammar (layout.graph c) a call.h (grammar.graph call.h).start step.to = record {
        step = step;
        of_graph = call.inside;
        to_node = refl;
        leads = (leg.word, leg.run, leg.free ((free_parts whole first second both).0));
        enters = by_call [] [] call.labels free.none;
      } in
      entering.more (subst (λ h. Enters grammar (layout.graph c) a h (grammar.graph h).start step.to) (sym call.graph) one)
      (dive_enters rest (free_parts whole first second both).1 u sign inside from ope)

  -- what a unit of the flat graph enters, told in the layout
  pub record EnteredAt (c a x : ℕ) : Type 0 where
    pub unit : Begun x
    pub enters : EntersInTurns grammar (layout.graph c) a (layout.graph unit.c) unit.a

  at_step : {g h x y : ℕ} (s : Step) → EntersAt whole g s h y → flat.IsStep s → g ≡ 1 →
      LeadsFreely whole 1 x s.from → (c a : ℕ) → At x c a → BeginsAt c a →
      (h ≡ 1) × EnteredAt c a y
  at_step s (by_call {h = h} front back e f) inside one leads c a at begins =
      absurd (never_calls 1 h s inside (subst (λ (l : List Label). Contains l (label.Call h)) (sym e)
      (Contains-append_right front (label.Call h ∷ back) (label.Call h)
      (Contains-append_left (label.Call h ∷ []) back (label.Call h) (Contains-push [] (label.Call h))))))
  at_step s (by_opening sign ope) inside one leads c a at begins =
      let o = own_opening s sign inside ope in
      let r = toured leads.1 c a at in
      let same : r.t ≡ o.c = sym r.at.copy ∙ o.own.from.copy in
      let from : o.t.from ≡ r.b = sym o.own.from.state ∙ r.at.state in
      let d : ADive c a o.c r.b leads.0 = subst (λ t. ADive c a t r.b leads.0) same (dive begins r.tour) in (
        one,
        record {
          unit = opened_unit s sign o ope;
          enters = dive_enters d leads.2 o.t sign o.own.inside from
              (subst (λ l. mark_of l ≡ opens sign) o.own.same_labels ope);
        },
      )

  enter_back : {g x h y node : ℕ} → Enters whole g x h y node → g ≡ 1 → (c a : ℕ) → At x c a →
      BeginsAt c a → (h ≡ 1) × EnteredAt c a y
  enter_back {x = x} e one c a at begins =
      at_step e.step e.enters (subst (λ g. (whole.graph g).IsStep e.step) one e.of_graph) one
      (subst (λ g. LeadsFreely whole g x e.step.from) one e.leads) c a at begins

  enters_back : {g x h y : ℕ} → EntersInTurns whole g x h y → g ≡ 1 → (c a : ℕ) → At x c a →
      BeginsAt c a → EnteredAt c a y
  enters_back (entering.once e) one c a at begins = (enter_back e one c a at begins).1
  enters_back (entering.more e rest) one c a at begins =
      let first = enter_back e one c a at begins in
      let unit = first.1.unit in
      let later = enters_back rest first.0 unit.c unit.a unit.at unit.begins in
      record { unit = later.unit; enters = entries_joined first.1.enters later.enters }

  left_recursive : {g a h b : ℕ} → EntersInTurns grammar g a h b → h ≡ g → b ≡ a →
      IsUnit grammar g a → (node : ℕ) × IsLeftRecursive grammar g node
  left_recursive {g = g} {a = a} {h = h} {b = b} (entering.once {node = node} e) same back unit = (
    node,
    record {
      first = a;
      unit = unit;
      entered_graph = h;
      entered_first = b;
      enters = e;
      returns = inl (same, back);
    },
  )
  left_recursive {g = g} {a = a} (entering.more {h = k} {v = v} {node = node} e rest) same back unit = (
    node,
    record {
      first = a;
      unit = unit;
      entered_graph = k;
      entered_first = v;
      enters = e;
      returns = inr (subst₂ (λ h b. EntersInTurns grammar k v h b) same back rest);
    },
  )

  turns_of : (g : ℕ) {node : ℕ} (bad : IsLeftRecursive whole g node) →
      EntersInTurns whole g bad.first g bad.first
  turns_of g {node} bad = elim bad.returns as (λ z. EntersInTurns whole g bad.first g bad.first) [
    | inl same ↦ subst₂ (λ h b. EntersInTurns whole g bad.first h b) same.0 same.1 (entering.once bad.enters)
    | inr turns ↦ entering.more bad.enters turns
  ]

  pub no_left : ((g node : ℕ) → IsLeftRecursive grammar g node → ⊥) → (g node : ℕ) →
      IsLeftRecursive whole g node → ⊥
  no_left none g node bad =
      let one = only g bad.enters.step bad.enters.of_graph in
      let unit = unit_at bad.first (subst (λ g. IsUnit whole g bad.first) one bad.unit) in
      let back = enters_back (turns_of g bad) one unit.c unit.a unit.at unit.begins in
      let again = back.unit in
      let same : again.c ≡ unit.c = sym again.at.copy ∙ unit.at.copy in
      let here : again.a ≡ unit.a = sym again.at.state ∙ unit.at.state in
      let left = left_recursive back.enters (ap layout.graph same) here
      (old_unit unit.c unit.a unit.begins) in
      none (layout.graph unit.c) left.0 left.1
