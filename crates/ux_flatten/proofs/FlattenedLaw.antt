-- What was made of the graphs of a net is its flat graph.
use Rattle.std.proofs.Common.{arith, ◌≡◌, ◌≤◌, ◌∙◌, ℕ, List, [], ◌∷◌, Bool, ap, length, subst, sym}
use Rattle.std.specs.Prelude.{None}
use Rattle.std.proofs.lemmas.List.{length-map}
use Rattle.ux_net.specs.declared.net_graph.NetGraph.{NetGraph}
use Rattle.ux_net.specs.declared.state.State.{State}
use Rattle.ux_net.specs.declared.state_graph.StateGraph.{StateGraph}
use Rattle.ux_net.specs.StateGraphs.{AreInsideStates, state_grammar, told_at}
use Rattle.ux_net.specs.Whole.{told_graph}
use Rattle.ux_flatten.specs.Copies.{copy, name_in}
use Rattle.ux_flatten.specs.Cuts.{IsNegativeCut}
use Rattle.ux_flatten.specs.Flattening.{IsFlatGraph, IsFlattened, IsTooBig, TellsWords, told}
use Rattle.ux_flatten.proofs.InsideLaw.{flat_inside}

-- a graph is told by its name and its states
same_graph : (flat : StateGraph) (name : List ℕ) (states : List State) → flat.name ≡ name →
    flat.states ≡ states → flat ≡ record { name = name; states = states }
same_graph flat name states p q = λ i. record { name = p i; states = q i }

pub is_flat_graph : (net : List NetGraph) (graphs : List StateGraph) → graphs ≡ told net →
    (words : ℕ → Bool) → TellsWords graphs words → (depth : ℕ) (flat : StateGraph)
    (states : List State) → states ≡ copy graphs words depth 1 0 None →
    flat.name ≡ name_in (told_at (told net) 1) → flat.states ≡ states →
    IsFlatGraph (told net) depth flat
is_flat_graph net graphs same words tells depth flat states made name of_states = record {
  has_word = words;
  tells = subst (λ (l : List StateGraph). TellsWords l words) same tells;
  is = same_graph flat (name_in (told_at (told net) 1)) (copy (told net) words depth 1 0 None) name
      (of_states ∙ (made ∙ ap (λ (l : List StateGraph). copy l words depth 1 0 None) same));
}

pub is_flattened : (net : List NetGraph) (graphs : List StateGraph) → graphs ≡ told net →
    (depth : ℕ) → (IsTooBig graphs depth → ⊥) →
    ((g node : ℕ) → IsNegativeCut (state_grammar graphs) depth g node → ⊥) →
    IsFlattened (told net) depth
is_flattened net graphs same depth small cut =
    subst (λ (l : List StateGraph). IsFlattened l depth) same
    (record { not_too_big = small; no_cut = cut })

pub some_told : (net : List NetGraph) → 1 ≤ length net → 1 ≤ length (told net)
some_told net some = omega (arith, some, length-map net told_graph)

pub inside_flat : (net : List NetGraph) (depth : ℕ) → AreInsideStates (told net) → 1 ≤ length net →
    (flat : StateGraph) → IsFlatGraph (told net) depth flat → IsFlattened (told net) depth →
    AreInsideStates (flat ∷ [])
inside_flat net depth inside some flat is flattened =
    subst (λ (g : StateGraph). AreInsideStates (g ∷ [])) (sym is.is)
    (flat_inside (told net) is.has_word depth is.tells inside (some_told net some) flattened)
