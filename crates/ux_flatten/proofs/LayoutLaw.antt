-- The flat graph derives what the grammar derives to the depth, level by level.
use Rattle.std.proofs.Common.{ℕ, zero, suc, List, ◌↔◌}
use Rattle.ux_net.specs.declared.label.Label.TheVariants as label
use Rattle.ux_outputs.specs.declared.event.Event.{Event}
use Rattle.ux_net.specs.Words.{StepGraph, Grammar}
use Rattle.ux_meaning.specs.Inputs.{Input}
use Rattle.ux_meaning.specs.Meaning.{RefusesBy, DerBy, Der}
use Rattle.ux_flatten.specs.Depths.{RefusesTo, DerToBy, DerTo}
use Rattle.ux_flatten.proofs.FlatGraphs.{HasLabels, Layout, ClosesContexts, Stands, IsFlat}
use Rattle.ux_flatten.proofs.TellsBack as back
use Rattle.ux_flatten.proofs.TellsForth as forth
use Rattle.ux_flatten.proofs.TellsBack.{Opened}
use Rattle.ux_flatten.proofs.LayoutCuts.{CutsNothing, CutsNoNegative}
use Rattle.ux_flatten.proofs.UncutCopies.{nothing_cut, part_of}

module _ (input : Input) (grammar : Grammar) (layout : Layout) (stop_text : List ℕ)
    (whole : Grammar)
    (main depth : ℕ) (is : IsFlat grammar layout stop_text (whole.graph 1) main depth)
    (labels : HasLabels grammar) (closed : ClosesContexts grammar)
    (no_call : (h p k : ℕ) → input.Takes (label.Call h) p k → ⊥)
    (no_stop : (p k : ℕ) → input.Takes (label.CaseExact stop_text) p k → ⊥) where
  abbrev flat : StepGraph
  flat = whole.graph 1

  abbrev At : ℕ → ℕ → ℕ → Type 0
  At = Stands grammar layout stop_text flat

  abbrev graph_in : ℕ → StepGraph
  graph_in c = grammar.graph (layout.graph c)

  abbrev Old : ℕ → ℕ → ℕ → ℕ → ℕ → ℕ → Type 0
  Old = RefusesTo input grammar

  abbrev New : ℕ → ℕ → ℕ → ℕ → ℕ → Type 0
  New = RefusesBy input whole

  mutual
    refuses_forth : (n x y c a b p : ℕ) → At x c a → At y c b → Opened (graph_in c) a →
        Old n (layout.depth c) (layout.graph c) a b p → New n 1 x y p
    refuses_forth zero x y c a b p sx sy op r = r
    refuses_forth (suc n) x y c a b p sx sy op r = λ word k events body s.
        let told = back.body_back input grammar layout stop_text whole (Old n) (New n) main depth
        is closed
        no_stop (refuses_back n) x y word body c a b sx sy op in
        r told.body k events told.of_graph (told.tells p k events
        (back.to_line input grammar layout stop_text whole (Old n) (New n) main depth is closed
        no_stop
        (refuses_back n) s))

    refuses_back : (n x y c a b p : ℕ) → At x c a → At y c b → Opened (graph_in c) a →
        New n 1 x y p → Old n (layout.depth c) (layout.graph c) a b p
    refuses_back zero x y c a b p sx sy op r = r
    refuses_back (suc n) x y c a b p sx sy op r = λ word k events body s.
        let out = forth.body_forth input grammar layout stop_text whole (Old n) (New n) main depth
        is labels
        no_call (refuses_forth n) x y c a b word sx sy body p k events
        (forth.to_line input grammar layout stop_text whole (Old n) (New n) main depth is labels
        no_call
        (refuses_forth n) s) in
        r out.body k events out.of_body out.seq

  -- at each level the flat graph derives exactly what main derives to the depth
  pub same_by_level : (n i j : ℕ) (events : List Event) →
      DerBy input whole n 1 i j events ↔ DerToBy input grammar n depth main i j events
  same_by_level n i j events = (
    λ d.
        let w = back.word_back input grammar layout stop_text whole (Old n) (New n) main depth is
        closed
        no_stop (refuses_back n) d.word d.of_graph in
        record {
          word = w.word;
          of_graph = w.of_graph;
          seq = w.tells i j events
              (back.to_line input grammar layout stop_text whole (Old n) (New n) main
              depth is closed no_stop (refuses_back n) d.seq);
        },
    λ d.
        let w = forth.word_forth input grammar layout stop_text whole (Old n) (New n) main depth is
        labels
        no_call (refuses_forth n) d.word d.of_graph i j events
        (forth.to_line input grammar layout stop_text whole (Old n) (New n) main depth is labels
        no_call
        (refuses_forth n) d.seq) in
        record { word = w.word; of_graph = w.of_graph; seq = w.seq },
  )

  -- the law
  pub same_derivations : (i j : ℕ) (events : List Event) →
      Der input whole 1 i j events ↔ DerTo input grammar depth main i j events
  same_derivations i j events = (
    λ d. (d.0, λ m le. (same_by_level m i j events).0 (d.1 m le)),
    λ d. (d.0, λ m le. (same_by_level m i j events).1 (d.1 m le)),
  )

  -- each derivation of the flat graph is one of the grammar
  pub derived : CutsNoNegative grammar layout stop_text flat → (i j : ℕ) (events : List Event) →
      Der input whole 1 i j events → Der input grammar main i j events
  derived none i j events d = (
    d.0,
    λ m le.
        part_of input grammar layout stop_text flat main depth is labels none m i j events
        ((same_by_level m i j events).0 (d.1 m le)),
  )

  -- the flat graph derives exactly what the grammar derives
  pub equal : CutsNothing grammar layout stop_text flat → (i j : ℕ) (events : List Event) →
      Der input whole 1 i j events ↔ Der input grammar main i j events
  equal none i j events = (
    λ d. (
      d.0,
      λ m le.
          (nothing_cut input grammar layout stop_text flat main depth is labels none m i j events).0
          ((same_by_level m i j events).0 (d.1 m le)),
    ),
    λ d. (
      d.0,
      λ m le. (same_by_level m i j events).1
          ((nothing_cut input grammar layout stop_text flat main depth is labels none m i j
          events).1
          (d.1 m le)),
    ),
  )
