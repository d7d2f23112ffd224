-- From the layout to what the depth cuts off.
use Rattle.std.proofs.Common.{arith, ◌≡◌, ℕ, zero, suc, List, [], ◌∷◌, ◌++◌, ◌↔◌, sym, subst, ap, refl, ◌∙◌, ◌⊎◌, inl, inr}
use Rattle.ux_net.specs.declared.label.Label.{Label}
use Rattle.ux_net.specs.declared.label.Label.TheVariants as label
use Rattle.ux_outputs.specs.declared.event.Event.{Event}
use Rattle.ux_net.specs.Words.{Sign, positive, negative, Letter, plain, context, Step, StepGraph, Grammar, opens, mark_of, letters, put_by, Run, stop, along, across, IsWord, IsBody}
use Rattle.ux_meaning.specs.Inputs.{Input}
use Rattle.ux_meaning.specs.Meaning.{DerBy}
use Rattle.ux_net.proofs.RunLemmas.{run_joined}
use Rattle.ux_flatten.specs.Depths.{DerToBy}
use Rattle.ux_flatten.proofs.FlatGraphs.{HasLabels, Layout, Stands, Enters, Replaces, expanded, cut, IsFlat}
use Rattle.ux_flatten.specs.Cuts.{IsNegativeUnit, of_negative, within, IsNegativeStep}
use Rattle.ux_flatten.proofs.LayoutCuts.{NegativeCopy, by_step, by_caller, CutsNothing, CutsNoNegative}
use Rattle.ux_flatten.proofs.Lines.{IsSimple, AreSimple, simple_label, simple_pieces}
use Rattle.ux_flatten.proofs.BareRuns.{call_or_not, call, OwnEdge, marked_edge, open_marked, Bare, bare}
use Rattle.ux_flatten.proofs.BareRuns as runs
use Rattle.ux_flatten.proofs.UncutLaw.{Each, Whole, AreWhole, Kept, AreKept, whole, part}
use Rattle.ux_flatten.proofs.UncutLaw as uncut

module _ (Is : Letter → Type 0) where
  each_append : (v w : List Letter) → Each Is v → Each Is w → Each Is (v ++ w)
  each_append [] w a b = b
  each_append (x ∷ v) w a b = (a.0, each_append v w a.1 b)

  each_simple : ((x : Letter) → IsSimple x → Is x) → (v : List Letter) → AreSimple v → Each Is v
  each_simple f [] u = tt
  each_simple f (x ∷ v) u = (f x u.0, each_simple f v u.1)

-- each letter of a run, told by the run before it
module _ (g : ℕ) (graph : StepGraph)
    (labels : (s : Step) → graph.IsStep s → (x : Label) × (s.labels ≡ x ∷ []))
    (Is : Letter → Type 0) (a : ℕ) (simple : (x : Letter) → IsSimple x → Is x)
    (calling : (t : Step) (h : ℕ) (before : List Letter) → Run g graph a t.from before →
    graph.IsStep t →
    t.labels ≡ label.Call h ∷ [] → Is (plain (label.Call h)))
    (opening : (sign : Sign) (t u : Step) (before : List Letter) → Run g graph a t.from before →
    graph.IsStep t → mark_of t.labels ≡ opens sign → Is (context sign g t.to u.to)) where
  each_label : (s : Step) (before : List Letter) → Run g graph a s.from before → graph.IsStep s →
      Each Is (letters s.labels)
  each_label s before run is =
      let l = labels s is in
      elim (call_or_not l.0) as (λ z. Each Is (letters s.labels)) [
        | call h e ↦
            let f : s.labels ≡ label.Call h ∷ [] = l.1 ∙ ap (λ x. x ∷ []) e in
            subst (λ l. Each Is (letters l)) (sym f) (calling s h before run is f, tt)
        | runs.none u ↦
            subst (λ l. Each Is (letters l)) (sym l.1)
            (each_simple Is simple (letters (l.0 ∷ [])) (simple_label l.0 u))
      ]

  pub each_of_run : {a' b : ℕ} {word : List Letter} → Run g graph a' b word →
      (before : List Letter) →
      Run g graph a a' before → Each Is word
  each_of_run stop before run = tt
  each_of_run (along {word = word} s is ord rest) before run =
      each_append Is (put_by s ++ letters s.labels) word
      (each_append Is (put_by s) (letters s.labels)
      (each_simple Is simple (put_by s) (simple_pieces s.output)) (each_label s before run is))
      (each_of_run rest _ (run_joined g graph run (along s is ord stop)))
  each_of_run (across {word = word} sign s t is ope inner it clo rest) before run =
      each_append Is (put_by s) (context sign g s.to t.to ∷ word)
      (each_simple Is simple (put_by s) (simple_pieces s.output)) (
        opening sign s t before run is ope,
        each_of_run rest _ (run_joined g graph run (across sign s t is ope inner it clo stop)),
      )

module _ (input : Input) (grammar : Grammar) (layout : Layout) (stop_text : List ℕ)
    (flat : StepGraph)
    (main depth : ℕ) (flat_is : IsFlat grammar layout stop_text flat main depth)
    (labels : HasLabels grammar) where
  abbrev At : ℕ → ℕ → ℕ → Type 0
  At = Stands grammar layout stop_text flat

  abbrev graph_in : ℕ → StepGraph
  graph_in c = grammar.graph (layout.graph c)

  abbrev RunIn : ℕ → ℕ → ℕ → List Letter → Type 0
  RunIn c = Run (layout.graph c) (graph_in c)

  -- some copy of this graph at this depth has the place, and is so there
  pub record Stood (Kind : (c a : ℕ) → Type 0) (d g a : ℕ) : Type 0 where
    pub x : ℕ
    pub c : ℕ
    pub at : At x c a
    pub at_depth : layout.depth c ≡ d
    pub of_graph : layout.graph c ≡ g
    pub kind : Kind c a

  -- what is so goes on into contexts and into layout
  pub record Spreads (Kind : (c a : ℕ) → Type 0) : Type 0 where
    pub opened : (c a : ℕ) (t : Step) (sign : Sign) (word : List Letter) → Kind c a →
        RunIn c a t.from word →
        (graph_in c).IsStep t → mark_of t.labels ≡ opens sign → Kind c t.to
    pub entered : (c a h : ℕ) (t s : Step) (word : List Letter) → Kind c a → RunIn c a t.from word →
        (e : Enters grammar layout stop_text flat c t h s) → flat.IsStep s →
        Kind e.new (graph_in e.new).start

  -- nothing that is so is cut off
  abbrev pub NoneCut : ((c a : ℕ) → Type 0) → Type 0
  NoneCut Kind = (x c a h : ℕ) (t : Step) (word : List Letter) → Kind c a → RunIn c a t.from word →
      At x c t.from → layout.depth c ≡ 0 → (graph_in c).IsStep t → t.labels ≡ label.Call h ∷ [] → ⊥

  module _ (Kind : (c a : ℕ) → Type 0) (spreads : Spreads Kind) where
    entering : (c a h : ℕ) (t s : Step) (word : List Letter) → Kind c a → RunIn c a t.from word →
        (e : Enters grammar layout stop_text flat c t h s) → flat.IsStep s →
        Stood Kind (layout.depth e.new) h (grammar.graph h).start
    entering c a h t s word kind run e inside =
        subst (λ h. Stood Kind (layout.depth e.new) h (grammar.graph h).start) e.graph (record {
          x = s.to;
          c = e.new;
          at = e.to;
          at_depth = refl;
          of_graph = refl;
          kind = spreads.entered c a h t s word kind run e inside;
        })

    opening_at : (x c a : ℕ) (sign : Sign) (t : Step) (word : List Letter) → At x c a →
        Kind c t.to →
        RunIn c a t.from word → (graph_in c).IsStep t → mark_of t.labels ≡ opens sign →
        Stood Kind (layout.depth c) (layout.graph c) t.to
    opening_at x c a sign t word at kind run inside ope =
        let y = bare grammar layout stop_text flat main depth flat_is labels c a t.from word run x
        at in
        let e = marked_edge grammar layout stop_text flat main depth flat_is labels y.y c t
        (opens sign) ope
        (open_marked grammar layout stop_text flat main depth flat_is labels sign) y.at inside in
        record { x = e.s.to; c = c; at = e.own.to; at_depth = refl; of_graph = refl; kind = kind }

    abbrev IsWhole : ℕ → Letter → Type 0
    IsWhole = Whole input grammar (Stood Kind)

    module _ (none_cut : NoneCut Kind) where
      at_some : (x c a h : ℕ) (t s : Step) (before : List Letter) → Kind c a →
          RunIn c a t.from before →
          At x c t.from → (graph_in c).IsStep t → t.labels ≡ label.Call h ∷ [] → flat.IsStep s →
          Replaces grammar layout stop_text flat c t h s → (word : List Letter) →
          IsWord h (grammar.graph h) word → (m : ℕ) → layout.depth c ≡ m →
          (e : ℕ) × (layout.depth c ≡ suc e) × Stood Kind e h (grammar.graph h).start
      at_some x c a h t s before kind run at inside e is (expanded z) word has m f =
          (layout.depth z.new, z.depth, entering c a h t s before kind run z is)
      at_some x c a h t s before kind run at inside e is (cut z) word has zero f =
          absurd (none_cut x c a h t before kind run at f inside e)
      at_some x c a h t s before kind run at inside e is (cut z) word has (suc d) f =
          absurd (z.cut d f word has)

      each_whole : (x c a : ℕ) → At x c a → Kind c a → {b : ℕ} {word : List Letter} →
          RunIn c a b word →
          Each (IsWhole (layout.depth c)) word
      each_whole x c a at kind run =
          each_of_run (layout.graph c) (graph_in c) (labels (layout.graph c))
          (IsWhole (layout.depth c)) a
          (λ x u. uncut.simple u)
          (λ t h before run inside e.
          let y = bare grammar layout stop_text flat main depth flat_is labels c a t.from before
          run x at in
          let r = flat_is.call_edge y.y c t h y.at inside e in
          uncut.called (λ word has. at_some y.y c a h t r.0 before kind run y.at inside e r.1 r.3
          word has
          (layout.depth c) refl))
          (λ sign t u before run inside ope.
          uncut.opened (opening_at x c a sign t before at
          (spreads.opened c a t sign before kind run inside ope) run inside ope))
          run [] stop

      pub are_whole : AreWhole input grammar (Stood Kind)
      are_whole = record {
        of_graphs = λ d g word u has.
            let w : IsWord (layout.graph u.c) (graph_in u.c) word =
            subst (λ g. IsWord g (grammar.graph g) word) (sym u.of_graph) has in
            let at : At u.x u.c (graph_in u.c).start =
            subst (λ g. At u.x u.c (grammar.graph g).start) (sym u.of_graph) u.at in
            let kind : Kind u.c (graph_in u.c).start =
            subst (λ g. Kind u.c (grammar.graph g).start) (sym u.of_graph) u.kind in
            subst (λ d. Each (IsWhole d) word) u.at_depth
            (each_whole u.x u.c (graph_in u.c).start at kind w.run);
        of_bodies = λ d g a b word u has.
            let w : IsBody (layout.graph u.c) (graph_in u.c) a b word =
            subst (λ g. IsBody g (grammar.graph g) a b word) (sym u.of_graph) has in
            subst (λ d. Each (IsWhole d) word) u.at_depth (each_whole u.x u.c a u.at u.kind w.run);
      }

  -- of any copy
  abbrev Any : (c a : ℕ) → Type 0
  Any c a = Unit {0}

  any_spreads : Spreads Any
  any_spreads = record {
    opened = λ c a t sign word kind run inside ope. tt;
    entered = λ c a h t s word kind run e inside. tt;
  }

  at_root : Stood Any depth main (grammar.graph main).start
  at_root = record {
    x = flat.start;
    c = layout.root;
    at = flat_is.start;
    at_depth = flat_is.at_depth;
    of_graph = flat_is.of_main;
    kind = tt;
  }

  -- where no copy at depth 0 has a call, what is derived to the depth is what is derived
  pub nothing_cut : CutsNothing grammar layout stop_text flat → (n i j : ℕ) (events : List Event) →
      DerToBy input grammar n depth main i j events ↔ DerBy input grammar n main i j events
  nothing_cut nothing n i j events =
      whole input grammar (Stood Any)
      (are_whole Any any_spreads
      (λ x c a h t word kind run at e inside f. nothing x c h t at e inside f))
      n depth main i j events at_root

  -- in a negative context
  abbrev Negative : (c a : ℕ) → Type 0
  Negative c a =
      NegativeCopy grammar layout stop_text flat c ⊎ IsNegativeUnit grammar (layout.graph c) a

  on_step : (c a : ℕ) (t : Step) (word : List Letter) → Negative c a → RunIn c a t.from word →
      NegativeCopy grammar layout stop_text flat c ⊎ IsNegativeStep grammar (layout.graph c) t
  on_step c a t word (inl n) run = inl n
  on_step c a t word (inr n) run = inr (record { first = a; unit = n; word = word; run = run })

  opened_negative : (c a : ℕ) (t : Step) (sign : Sign) (word : List Letter) → Negative c a →
      RunIn c a t.from word → (graph_in c).IsStep t → mark_of t.labels ≡ opens sign →
      Negative c t.to
  opened_negative c a t sign word (inl n) run inside ope = inl n
  opened_negative c a t sign word (inr n) run inside ope = inr (within sign t n run inside ope)

  entered_negative : (c h : ℕ) (t s : Step) →
      NegativeCopy grammar layout stop_text flat c ⊎ IsNegativeStep grammar (layout.graph c) t →
      (e : Enters grammar layout stop_text flat c t h s) → flat.IsStep s →
      Negative e.new (graph_in e.new).start
  entered_negative c h t s (inl n) e inside = inl (by_caller e inside n)
  entered_negative c h t s (inr n) e inside = inl (by_step e inside n)

  negative_spreads : Spreads Negative
  negative_spreads = record {
    opened = opened_negative;
    entered = λ c a h t s word kind run e inside.
        entered_negative c h t s (on_step c a t word kind run) e inside;
  }

  module _ (no_negative : CutsNoNegative grammar layout stop_text flat) where
    negative_whole : AreWhole input grammar (Stood Negative)
    negative_whole = are_whole Negative negative_spreads
        (λ x c a h t word kind run at e inside f. no_negative x c h t at e inside f
        (on_step c a t word kind run))

    abbrev IsKept : ℕ → Letter → Type 0
    IsKept = Kept input grammar (Stood Negative) negative_whole (Stood Any)

    kept_call : (c a h : ℕ) (t s : Step) (before : List Letter) → RunIn c a t.from before →
        flat.IsStep s →
        Replaces grammar layout stop_text flat c t h s → (word : List Letter) →
        IsWord h (grammar.graph h) word → (e : ℕ) → layout.depth c ≡ suc e →
        Stood Any e h (grammar.graph h).start
    kept_call c a h t s before run is (expanded z) word has e f =
        subst (λ e. Stood Any e h (grammar.graph h).start) (omega (arith, z.depth, f))
        (entering Any any_spreads c a h t s before tt run z is)
    kept_call c a h t s before run is (cut z) word has e f = absurd (z.cut e f word has)

    kept_context : (x c a : ℕ) (sign : Sign) (t u : Step) (before : List Letter) → At x c a →
        RunIn c a t.from before → (graph_in c).IsStep t → mark_of t.labels ≡ opens sign →
        IsKept (layout.depth c) (context sign (layout.graph c) t.to u.to)
    kept_context x c a positive t u before at run inside ope =
        uncut.holding (opening_at Any any_spreads x c a positive t before at tt run inside ope)
    kept_context x c a negative t u before at run inside ope =
        uncut.refusing (opening_at Negative negative_spreads x c a negative t before at
        (inr (of_negative t inside ope)) run inside ope)

    each_kept : (x c a : ℕ) → At x c a → {b : ℕ} {word : List Letter} → RunIn c a b word →
        Each (IsKept (layout.depth c)) word
    each_kept x c a at run =
        each_of_run (layout.graph c) (graph_in c) (labels (layout.graph c))
        (IsKept (layout.depth c)) a
        (λ x u. uncut.simple u)
        (λ t h before run inside e.
        let y = bare grammar layout stop_text flat main depth flat_is labels c a t.from before run
        x at in
        let r = flat_is.call_edge y.y c t h y.at inside e in
        uncut.called (λ word has e f. kept_call c a h t r.0 before run r.1 r.3 word has e f))
        (λ sign t u before run inside ope. kept_context x c a sign t u before at run inside ope)
        run [] stop

    are_kept : AreKept input grammar (Stood Negative) negative_whole (Stood Any)
    are_kept = record {
      of_graphs = λ d g word u has.
          let w : IsWord (layout.graph u.c) (graph_in u.c) word =
          subst (λ g. IsWord g (grammar.graph g) word) (sym u.of_graph) has in
          let at : At u.x u.c (graph_in u.c).start =
          subst (λ g. At u.x u.c (grammar.graph g).start) (sym u.of_graph) u.at in
          subst (λ d. Each (IsKept d) word) u.at_depth
          (each_kept u.x u.c (graph_in u.c).start at w.run);
      of_bodies = λ d g a b word u has.
          let w : IsBody (layout.graph u.c) (graph_in u.c) a b word =
          subst (λ g. IsBody g (grammar.graph g) a b word) (sym u.of_graph) has in
          subst (λ d. Each (IsKept d) word) u.at_depth (each_kept u.x u.c a u.at w.run);
    }

    -- where no call in a negative context is cut off, what is derived to the depth is derived
    pub part_of : (n i j : ℕ) (events : List Event) →
        DerToBy input grammar n depth main i j events →
        DerBy input grammar n main i j events
    part_of n i j events d =
        part input grammar (Stood Negative) negative_whole (Stood Any) are_kept n depth main i j
        events
        at_root d
