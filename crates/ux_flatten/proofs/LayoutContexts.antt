-- No context of the flat graph is refused where none of the grammar is.
use Rattle.std.proofs.Common.{◌≡◌, ℕ, List, sym, subst, subst₂, refl, ◌∙◌, ap, inl, inr}
use Rattle.ux_net.specs.Words.{Sign, negative, Letter, Step, StepGraph, Grammar, ordinary, opens, closes, mark_of, Run}
use Rattle.ux_meaning.specs.Inputs.{Input}
use Rattle.ux_flatten.proofs.FlatGraphs.{HasLabels, Layout, ClosesContexts, Stands, IsFlat}
use Rattle.ux_net.specs.Closers.{ClosesInto, OpensInto}
use Rattle.ux_admission.specs.ContextClose.{IsBadContext, AreClosed}
use Rattle.ux_flatten.proofs.TellsBack.{Opened, Tour, here, below, up, OwnStep, own_step}
use Rattle.ux_flatten.proofs.TellsBack as back
use Rattle.ux_flatten.proofs.BareRuns.{bare, marked_edge, close_marked}

-- a grammar without refused contexts
pub closes_contexts : (grammar : Grammar) → AreClosed grammar → ClosesContexts grammar
closes_contexts grammar are = record {
  no_end = λ g sign s last word inside ope run ends. are g s.to (inl (inr (record {
    sign = sign;
    opening = record { step = s; of_graph = inside; to = refl; opens = ope };
    last = last;
    ends = ends;
    word = word;
    run = run;
  })));
  no_closing = λ g s word inside clo run. are g s.to (inr (inr (
    word,
    record {
      step = s;
      inside = inside;
      closed = clo;
      after = refl;
      run = run;
    },
  )));
}

-- over nothing
abbrev pub nothing : Input
nothing = record { Takes = λ x p k. ⊥; IsSpaceAt = λ p. ⊥ }

abbrev pub AnyOld : ℕ → ℕ → ℕ → ℕ → ℕ → Type 0
AnyOld d g a b p = Unit {0}

abbrev pub AnyNew : ℕ → ℕ → ℕ → ℕ → Type 0
AnyNew g a b p = Unit {0}

module _ (grammar : Grammar) (layout : Layout) (stop_text : List ℕ) (whole : Grammar)
    (main depth : ℕ)
    (is : IsFlat grammar layout stop_text (whole.graph 1) main depth) (labels : HasLabels grammar)
    (are : AreClosed grammar) where
  abbrev flat : StepGraph
  flat = whole.graph 1

  abbrev At : ℕ → ℕ → ℕ → Type 0
  At = Stands grammar layout stop_text flat

  abbrev graph_in : ℕ → StepGraph
  graph_in c = grammar.graph (layout.graph c)

  abbrev ATour : ℕ → ℕ → ℕ → ℕ → List Letter → Type 0
  ATour = Tour nothing grammar layout stop_text whole AnyOld AnyNew

  abbrev Arrives : ℕ → ℕ → ℕ → List Letter → Type 0
  Arrives = back.Reached nothing grammar layout stop_text whole AnyOld AnyNew main depth is
      (closes_contexts grammar are) (λ p k t. t)

  toured : {x y : ℕ} {word : List Letter} → Run 1 flat x y word → (c a : ℕ) → At x c a →
      Arrives y c a word
  toured run c a st =
      back.run_back nothing grammar layout stop_text whole AnyOld AnyNew main depth is
      (closes_contexts grammar are) (λ p k t. t) (λ x y c a b p sx sy op t. tt) run c a st

  abbrev AnOwn : Step → Type 0
  AnOwn = OwnStep nothing grammar layout stop_text whole AnyOld AnyNew main depth is
      (closes_contexts grammar are) (λ p k t. t)

  own_of : (s : Step) → flat.IsStep s → (mark_of s.labels ≡ ordinary → ⊥) → AnOwn s
  own_of s inside other =
      own_step nothing grammar layout stop_text whole AnyOld AnyNew main depth is
      (closes_contexts grammar are) (λ p k t. t) s (is.steps s inside) other

  not_ordinary : (s : Step) (sign : Sign) → mark_of s.labels ≡ opens sign →
      mark_of s.labels ≡ ordinary → ⊥
  not_ordinary s sign e f =
      let g : opens sign ≡ ordinary = sym e ∙ f in
      cc

  not_ordinary' : (s : Step) → mark_of s.labels ≡ closes → mark_of s.labels ≡ ordinary → ⊥
  not_ordinary' s e f =
      let g : closes ≡ ordinary = sym e ∙ f in
      cc

  -- what opens there in a copy
  pub record OpenedAt (sign : Sign) (x : ℕ) : Type 0 where
    pub c : ℕ
    pub t : Step
    pub at : At x c t.to
    pub inside : (graph_in c).IsStep t
    pub opens : mark_of t.labels ≡ opens sign

  opened_at : (sign : Sign) (x : ℕ) → OpensInto whole 1 sign x → OpenedAt sign x
  opened_at sign x o =
      let s = own_of o.step o.of_graph (not_ordinary o.step sign o.opens) in
      record {
        c = s.c;
        t = s.t;
        at = subst (λ x. At x s.c s.t.to) o.to s.own.to;
        inside = s.own.inside;
        opens = subst (λ l. mark_of l ≡ opens sign) s.own.same_labels o.opens;
      }

  -- a tour to the root from the place after an opening step is a run in the root
  open_at_end : {c a t b : ℕ} {word : List Letter} → ATour c a t b word → (sign : Sign) (s : Step) →
      (graph_in c).IsStep s → mark_of s.labels ≡ opens sign → s.to ≡ a → t ≡ layout.root →
      (graph_in t).IsEnd b → ⊥
  open_at_end {c = c} {b = b} (here leg) sign s inside ope to root ends =
      (closes_contexts grammar are).no_end (layout.graph c) sign s b leg.word inside ope
      (subst (λ a. Run (layout.graph c) (graph_in c) a b leg.word) (sym to) leg.run) ends
  open_at_end (below z) sign s inside ope to root ends = z.inner root
  open_at_end {c = c} (up last first second leg stops inner rest e) sign s inside ope to root ends =
      (closes_contexts grammar are).no_end (layout.graph c) sign s last leg.word inside ope
      (subst (λ a. Run (layout.graph c) (graph_in c) a last leg.word) (sym to) leg.run) stops

  -- nor does a tour from the root's start come to a closing step
  never_opened : {c a t b : ℕ} {word : List Letter} → ATour c a t b word → c ≡ layout.root →
      a ≡ (graph_in c).start → (z : Step) → (graph_in t).IsStep z → mark_of z.labels ≡ closes →
      z.from ≡ b → ⊥
  never_opened {c = c} {b = b} (here leg) root start z inside clo from =
      (closes_contexts grammar are).no_closing (layout.graph c) z leg.word inside clo
      (subst₂ (λ a b. Run (layout.graph c) (graph_in c) a b leg.word) start (sym from) leg.run)
  never_opened {t = t} (below y) root start z inside clo from =
      (closes_contexts grammar are).no_closing (layout.graph t) z y.word inside clo
      (subst (λ b. Run (layout.graph t) (graph_in t) (graph_in t).start b y.word) (sym from) y.run)
  never_opened (up last first second leg ends inner rest e) root start z inside clo from =
      inner root

  -- where a body of the graph is closed, so is one in the copy
  closes_forth : (x c a b : ℕ) → At x c a → ClosesInto grammar (layout.graph c) a b →
      (y : ℕ) × At y c b × ClosesInto whole 1 x y
  closes_forth x c a b st closing =
      let body = closing.1 in
      let u = body.step in
      let r = bare grammar layout stop_text flat main depth is labels c a u.from closing.0 body.run
      x st in
      let f = marked_edge grammar layout stop_text flat main depth is labels r.y c u closes
      body.closed
      (close_marked grammar layout stop_text flat main depth is labels) r.at body.inside in (
        f.s.to,
        subst (λ b. At f.s.to c b) body.after f.own.to,
        (
          r.word,
          record {
            step = f.s;
            inside = f.inside;
            closed = subst (λ l. mark_of l ≡ closes) (sym f.own.same_labels) body.closed;
            after = refl;
            run = subst (λ z. Run 1 flat x z r.word) (sym f.from) r.run;
          },
        ),
      )

  closes_back : (x y c a : ℕ) → At x c a → Opened (graph_in c) a → ClosesInto whole 1 x y →
      (b : ℕ) × At y c b × ClosesInto grammar (layout.graph c) a b
  closes_back x y c a st op closing =
      let z = closing.1.step in
      let zo = own_of z closing.1.inside (not_ordinary' z closing.1.closed) in
      let q = zo.own in
      let u_closes : mark_of zo.t.labels ≡ closes =
      subst (λ l. mark_of l ≡ closes) q.same_labels closing.1.closed in
      let r = toured closing.1.run c a st in
      let e : r.t ≡ zo.c = sym r.at.copy ∙ q.from.copy in
      let f : zo.t.from ≡ r.b = sym q.from.state ∙ r.at.state in
      let tour : ATour c a zo.c r.b closing.0 = subst (λ t. ATour c a t r.b closing.0) e r.tour in
      let s = back.stayed nothing grammar layout stop_text whole AnyOld AnyNew main depth is
      (closes_contexts grammar are) (λ p k t. t) tour op zo.t q.inside u_closes f in (
        zo.t.to,
        subst₂ (λ y c. At y c zo.t.to) closing.1.after s.same q.to,
        (
          s.leg.word,
          record {
            step = zo.t;
            inside = subst (λ c. (graph_in c).IsStep zo.t) s.same q.inside;
            closed = u_closes;
            after = refl;
            run = subst (λ m. Run (layout.graph c) (graph_in c) a m s.leg.word) (sym f) s.leg.run;
          },
        ),
      )

  pub closed_flat : (node : ℕ) → IsBadContext whole 1 node → ⊥
  closed_flat x (inl (inl bad)) =
      let o = opened_at bad.sign x bad.opening in
      are (layout.graph o.c) o.t.to (inl (inl (record {
        sign = bad.sign;
        opening = record { step = o.t; of_graph = o.inside; to = refl; opens = o.opens };
        never = λ b closing.
            let y = closes_forth x o.c o.t.to b o.at closing in
            bad.never y.0 y.2;
      })))
  closed_flat x (inl (inr bad)) =
      let o = opened_at bad.sign x bad.opening in
      let r = toured bad.run o.c o.t.to o.at in
      let end = is.ends bad.last bad.ends in
      let root : r.t ≡ layout.root = sym r.at.copy ∙ end.1.copy in
      let ends : (graph_in r.t).IsEnd r.b =
      subst₂ (λ g b. (grammar.graph g).IsEnd b) (sym (ap layout.graph root ∙ is.of_main))
      (sym end.1.state ∙ r.at.state) end.2 in
      open_at_end r.tour bad.sign o.t o.inside o.opens refl root ends
  closed_flat x (inr (inl bad)) =
      let o = opened_at negative x bad.opening in
      let op : Opened (graph_in o.c) o.t.to =
      record { sign = negative; step = o.t; inside = o.inside; opens = o.opens; to = refl } in
      let v = closes_back x bad.first o.c o.t.to o.at op bad.into_first in
      let w = closes_back x bad.second o.c o.t.to o.at op bad.into_second in
      are (layout.graph o.c) o.t.to (inr (inl (record {
        opening = record { step = o.t; of_graph = o.inside; to = refl; opens = o.opens };
        first = v.0;
        second = w.0;
        apart = λ e. bad.apart
            (is.apart bad.first bad.second o.c w.0 (subst (λ b. At bad.first o.c b) e v.1) w.1);
        into_first = v.2;
        into_second = w.2;
      })))
  closed_flat x (inr (inr bad)) =
      let root = layout.root in
      let st : At flat.start root (graph_in root).start =
      subst (λ g. At flat.start root (grammar.graph g).start) (sym is.of_main) is.start in
      let z = bad.1.step in
      let zo = own_of z bad.1.inside (not_ordinary' z bad.1.closed) in
      let q = zo.own in
      let r = toured bad.1.run root (graph_in root).start st in
      let e : r.t ≡ zo.c = sym r.at.copy ∙ q.from.copy in
      let tour : ATour root (graph_in root).start zo.c r.b bad.0 =
      subst (λ t. ATour root (graph_in root).start t r.b bad.0) e r.tour in
      never_opened tour refl refl zo.t q.inside
      (subst (λ l. mark_of l ≡ closes) q.same_labels bad.1.closed) (sym q.from.state ∙ r.at.state)
