use Rattle.std.proofs.Common.{◌≡◌, take}
use Rattle.std.specs.Prelude.{Contains}
use Rattle.ux_net.specs.declared.state.Edge.{Edge}
use Rattle.ux_tokens.specs.Numbers.{different_texts}
use Rattle.ux_walk.specs.Literals.{IsFitted}
use Rattle.ux_automaton.specs.declared.front_index.Fitting.{Fitting}
use Rattle.ux_automaton.proofs.AddingLemmas.{AddsSome}
use Rattle.ux_automaton.proofs.front_index.add_edges.Given as goal

-- the stand was added with the tokens of the edges so far
abbrev pub invariant-loop-edge : goal.invariant-loop-edge
invariant-loop-edge l = AddsSome (λ (edge : Edge) (fitting : Fitting).
    IsFitted l.masked.alphabet.now (different_texts l.masked.text.now) edge.label fitting.number
    × (fitting.stand ≡ l.stand)) (Contains l.fn.fittings.items) (Contains l.fittings.items)
    (take l.edge-index l.edges)
