-- Lists that are copied element by element.
use Rattle.std.proofs.Common.{◌≡◌, ℕ, ◌+◌, List, [], ◌∷◌, ◌++◌, Some, refl, sym, subst, ap, ◌∙◌, add-one, length, get_or, take, slice_get}
use Rattle.std.specs.Prelude.{Option, None}
use Rattle.std.proofs.lemmas.List.{take_more}
use Rattle.std.proofs.lemmas.Option.{get_or_from_slice_get, slice_get_within}
use Rattle.ux_net.specs.declared.net_graph.NetGraph.{NetGraph}
use Rattle.ux_net.specs.declared.state_graph.StateGraph.{StateGraph}
use Rattle.ux_net.specs.Nets.{graph_at, states_in, states_of}
use Rattle.ux_net.specs.StateGraphs.{told_at}
use Rattle.ux_net.specs.Whole.{whole_in, whole_states_of}
use Rattle.ux_net.proofs.WholeLemmas.{length_whole}

-- one more element is copied
pub copied_more : {A : Type 0} (xs made now : List A) (i : ℕ) (x : A) → slice_get xs i ≡ Some x →
    made ≡ take i xs → now ≡ made ++ x ∷ [] → now ≡ take (i + 1) xs
copied_more {A} xs made now i x at so_far grown =
    let found : x ≡ get_or xs i x = sym (get_or_from_slice_get xs i x x at) in
    let front : take (i + 1) xs ≡ take i xs ++ x ∷ [] =
    take_more xs i x (slice_get_within xs i x at) ∙ ap (λ (y : A). take i xs ++ y ∷ []) (sym found) in
    grown ∙ (ap (λ (l : List A). l ++ x ∷ []) so_far ∙ sym front)

-- a graph has as many states as a file tells of it
pub length_told : (net : List NetGraph) (g : ℕ) →
    length (whole_states_of net g) ≡ length (states_of net g)
length_told net g = of_graph (graph_at net g)
  where
    of_graph : (graph : Option NetGraph) → length (whole_in graph) ≡ length (states_in graph)
    of_graph None = refl
    of_graph (Some graph) = length_whole graph.unmet 0 graph.states

-- the graph behind so many
pub told_next : (graphs : List StateGraph) (i : ℕ) → told_at graphs (i + 1) ≡ slice_get graphs i
told_next graphs i = subst (λ n. told_at graphs n ≡ slice_get graphs i) (sym (add-one i)) refl
