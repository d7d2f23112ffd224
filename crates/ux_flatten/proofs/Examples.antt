-- What the definitions say of small graphs.
use Rattle.std.proofs.Common.{◌≡◌, ℕ, List, [], ◌∷◌, refl, Bool, true, false, codes}
use Rattle.ux_tokens.specs.Tokens.{STOP}
use Rattle.ux_net.specs.declared.label.Label.{Label}
use Rattle.ux_net.specs.declared.label.Label.TheVariants.{Empty, CaseFolded, CaseExact, Call}
use Rattle.ux_net.specs.declared.state.Edge.{Edge}
use Rattle.ux_net.specs.declared.state.State.{State}
use Rattle.ux_net.specs.declared.state_graph.StateGraph.{StateGraph}
use Rattle.ux_flatten.specs.Copies.{flat_graph, size}

abbrev edge : Label → ℕ → Edge
edge label target = record { label = label; output = []; target = target }

abbrev state : Bool → List Edge → State
state is_final edges = record { is_final = is_final; edges = edges }

-- the word `a`, or `a` and then a word of the same graph
abbrev again : StateGraph
again = record {
  name = codes "again";
  states = state false (edge (CaseFolded (codes "a")) 1 ∷ edge (CaseFolded (codes "a")) 2 ∷ [])
      ∷ state true [] ∷ state false (edge (Call 1) 3 ∷ []) ∷ state true [] ∷ [];
}

-- at depth 1 a copy stands in place of its call, whose own call is a text that no token has
two_copies : (flat_graph (again ∷ []) (λ h. true) 1).states
    ≡ state false (edge (CaseFolded (codes "a")) 1 ∷ edge (CaseFolded (codes "a")) 2 ∷ [])
    ∷ state true [] ∷ state false (edge Empty 4 ∷ []) ∷ state true []
    ∷ state false (edge (CaseFolded (codes "a")) 5 ∷ edge (CaseFolded (codes "a")) 6 ∷ [])
    ∷ state false (edge Empty 3 ∷ []) ∷ state false (edge (CaseExact STOP) 7 ∷ [])
    ∷ state false (edge Empty 3 ∷ []) ∷ []
two_copies = refl

-- one more at each depth
sizes : size (again ∷ []) (λ h. true) 10 1 ≡ 44
sizes = refl

-- `a` and then two words of the same graph, or `a`: twice as many copies at each depth
abbrev twice : StateGraph
twice = record {
  name = codes "twice";
  states = state false (edge (CaseFolded (codes "a")) 1 ∷ edge (CaseFolded (codes "a")) 3 ∷ [])
      ∷ state false (edge (Call 1) 2 ∷ []) ∷ state false (edge (Call 1) 3 ∷ [])
      ∷ state true [] ∷ [];
}

doubled : size (twice ∷ []) (λ h. true) 3 1 ≡ 60
doubled = refl

-- where a graph has no word, nothing is copied
no_word : size (twice ∷ []) (λ h. false) 3 1 ≡ 4
no_word = refl
