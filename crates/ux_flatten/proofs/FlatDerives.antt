-- The theorem on flat nets: over an input that takes no call, and not the text in place of one, the
-- flat net derives exactly what the grammar derives to the depth.
use Rattle.std.proofs.Common.{ℕ, ◌≤◌, List, [], ◌∷◌, ◌↔◌, refl, subst, length}
use Rattle.ux_lexical_tables.specs.Accepting.{Accepts}
use Rattle.ux_net.specs.declared.label.Label.TheVariants as label
use Rattle.ux_net.specs.declared.net_graph.NetGraph.{NetGraph}
use Rattle.ux_net.specs.declared.state_graph.StateGraph.{StateGraph}
use Rattle.ux_net.specs.Nets.{net_grammar}
use Rattle.ux_net.specs.StateGraphs.{AreInsideStates, state_grammar}
use Rattle.ux_net.specs.Words.{Grammar, SayTheSame}
use Rattle.ux_admission.specs.ContextClose.{AreClosed}
use Rattle.ux_states.specs.Met.{met_grammar}
use Rattle.ux_outputs.specs.declared.event.Event.{Event}
use Rattle.ux_meaning.specs.Inputs.{Input}
use Rattle.ux_meaning.specs.Meaning.{Der}
use Rattle.ux_meaning.specs.Texts.{text_input}
use Rattle.ux_meaning.proofs.Renaming.{same_meaning}
use Rattle.ux_flatten.specs.Copies.{flat_graph}
use Rattle.ux_flatten.specs.Flattening.{DerivesOverTexts, DerivesTo, IsFlatGraph, IsFlattened}
use Rattle.ux_flatten.proofs.CopyLayout.{layout, stop_text}
use Rattle.ux_flatten.proofs.CutLaw.{cuts_no_negative, cuts_nothing}
use Rattle.ux_flatten.proofs.FlatLaw.{has_labels, is_flat}
use Rattle.ux_flatten.proofs.LayoutContexts.{closes_contexts}
use Rattle.ux_flatten.proofs.LayoutLaw as law
use Rattle.ux_flatten.proofs.SameSteps.{same_steps_same}
use Rattle.ux_flatten.proofs.TextLaw.{no_call, no_stop}

-- one after the other
through : {A B C : Type 0} → A ↔ B → B ↔ C → A ↔ C
through f g = (λ a. g.0 (f.0 a), λ c. f.1 (g.1 c))

module _ (input : Input) (no_call : (h p k : ℕ) → input.Takes (label.Call h) p k → ⊥)
    (no_stop : (p k : ℕ) → input.Takes (label.CaseExact stop_text) p k → ⊥)
    (graphs : List StateGraph) (depth : ℕ) (inside : AreInsideStates graphs)
    (some : 1 ≤ length graphs) (closed : AreClosed (state_grammar graphs))
    (flattened : IsFlattened graphs depth) (flat : StateGraph)
    (is : IsFlatGraph graphs depth flat) (net : List NetGraph)
    (says : SayTheSame (met_grammar (flat ∷ [])) (net_grammar net)) where
  abbrev grammar : Grammar
  grammar = state_grammar graphs

  abbrev whole : Grammar
  whole = state_grammar (flat_graph graphs is.has_word depth ∷ [])

  -- the net derives what its graph does
  of_net : (i j : ℕ) (events : List Event) →
      Der input (net_grammar net) 1 i j events
      ↔ Der input (state_grammar (flat ∷ [])) 1 i j events
  of_net i j events =
      let renamed =
      same_meaning input (met_grammar (flat ∷ [])) (net_grammar net) says 1 i j events in
      let same =
      same_steps_same input (met_grammar (flat ∷ [])) (state_grammar (flat ∷ []))
      (λ g. record { start = refl; ends = λ n e. e; steps = λ s e. e })
      (λ g. record { start = refl; ends = λ n e. e; steps = λ s e. e }) 1 i j events in
      through (renamed.1, renamed.0) same

  of_flat : (i j : ℕ) (events : List Event) →
      Der input (net_grammar net) 1 i j events ↔ Der input whole 1 i j events
  of_flat i j events =
      subst (λ (f : StateGraph). Der input (net_grammar net) 1 i j events
      ↔ Der input (state_grammar (f ∷ [])) 1 i j events) is.is (of_net i j events)

  -- the law
  pub flat_derives : DerivesTo input graphs depth net
  flat_derives =
      let where_ = layout graphs is.has_word depth is.tells inside some in
      let stands = is_flat graphs is.has_word depth is.tells inside some in
      let labels = has_labels graphs is.has_word depth is.tells inside some in
      let contexts = closes_contexts grammar closed in
      record {
        to_depth = λ i j events. through (of_flat i j events)
            (law.same_derivations input grammar where_ stop_text whole 1 depth stands labels
            contexts
            no_call no_stop i j events);
        derived = λ i j events d.
            law.derived input grammar where_ stop_text whole 1 depth stands labels contexts no_call
            no_stop (cuts_no_negative graphs is.has_word depth is.tells inside some
            flattened.no_cut)
            i j events ((of_flat i j events).0 d);
        equal = λ nothing i j events. through (of_flat i j events)
            (law.equal input grammar where_ stop_text whole 1 depth stands labels contexts no_call
            no_stop (cuts_nothing graphs is.has_word depth is.tells inside some nothing) i j
            events);
      }

-- over every text
pub derives_over_texts : (graphs : List StateGraph) (depth : ℕ) → AreInsideStates graphs →
    1 ≤ length graphs → AreClosed (state_grammar graphs) → IsFlattened graphs depth →
    (flat : StateGraph) → IsFlatGraph graphs depth flat → (net : List NetGraph) →
    SayTheSame (met_grammar (flat ∷ [])) (net_grammar net) → DerivesOverTexts graphs depth net
derives_over_texts graphs depth inside some closed flattened flat is net says =
    λ alphabet tokens tables are.
    flat_derives (text_input alphabet tokens (Accepts alphabet tokens tables))
    (no_call alphabet tokens (Accepts alphabet tokens tables))
    (no_stop alphabet tokens (Accepts alphabet tokens tables) are) graphs depth inside some closed
    flattened flat is net says
