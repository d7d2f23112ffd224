-- No context of a flat graph is refused, since none of the grammar is.
use Rattle.std.proofs.Common.{◌≡◌, ℕ, zero, suc, ◌≤◌, List, [], ◌∷◌, Some, inl, inr, length, Bool}
use Rattle.std.specs.Prelude.{None}
use Rattle.ux_net.specs.declared.state_graph.StateGraph.{StateGraph}
use Rattle.ux_net.specs.Nets.{IsNetStep}
use Rattle.ux_net.specs.StateGraphs.{AreInsideStates, state_grammar}
use Rattle.ux_net.specs.Words.{Grammar, Step}
use Rattle.ux_admission.specs.ContextClose.{AreClosed, IsBadContext}
use Rattle.ux_flatten.specs.Copies.{flat_graph}
use Rattle.ux_flatten.specs.Flattening.{TellsWords}
use Rattle.ux_flatten.proofs.CopyLayout.{layout, stop_text}
use Rattle.ux_flatten.proofs.FlatLaw.{has_labels, is_flat}
use Rattle.ux_flatten.proofs.LayoutContexts.{closed_flat}

-- a graph without steps has no context
pub no_context : (grammar : Grammar) (g : ℕ) → ((s : Step) → (grammar.graph g).IsStep s → ⊥) →
    (node : ℕ) → IsBadContext grammar g node → ⊥
no_context grammar g none node (inl (inl bad)) = none bad.opening.step bad.opening.of_graph
no_context grammar g none node (inl (inr bad)) = none bad.opening.step bad.opening.of_graph
no_context grammar g none node (inr (inl bad)) = none bad.opening.step bad.opening.of_graph
no_context grammar g none node (inr (inr closes)) = none closes.1.step closes.1.inside

-- there is none in a graph that isn't there
pub no_step : (s : Step) → IsNetStep [] s → ⊥
no_step s i = let none : None ≡ Some i.state = i.found in cc

module _ (graphs : List StateGraph) (has_word : ℕ → Bool) (depth : ℕ)
    (tells : TellsWords graphs has_word) (inside : AreInsideStates graphs)
    (some : 1 ≤ length graphs) (closed : AreClosed (state_grammar graphs)) where
  -- the law
  pub flat_closed : AreClosed (state_grammar (flat_graph graphs has_word depth ∷ []))
  flat_closed zero node bad =
      no_context (state_grammar (flat_graph graphs has_word depth ∷ [])) zero no_step node bad
  flat_closed (suc zero) node bad =
      closed_flat (state_grammar graphs) (layout graphs has_word depth tells inside some) stop_text
      (state_grammar (flat_graph graphs has_word depth ∷ [])) 1 depth
      (is_flat graphs has_word depth tells inside some)
      (has_labels graphs has_word depth tells inside some) closed node bad
  flat_closed (suc (suc g)) node bad =
      no_context (state_grammar (flat_graph graphs has_word depth ∷ [])) (suc (suc g)) no_step node
      bad
