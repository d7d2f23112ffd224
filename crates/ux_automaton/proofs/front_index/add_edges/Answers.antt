use Rattle.std.proofs.Common.{◌≡◌}
use Rattle.std.specs.Prelude.{Contains}
use Rattle.ux_net.specs.declared.state.Edge.{Edge}
use Rattle.ux_tokens.specs.Numbers.{different_texts}
use Rattle.ux_walk.specs.Literals.{IsFitted}
use Rattle.ux_automaton.specs.declared.front_index.Fitting.{Fitting}
use Rattle.ux_automaton.proofs.AddingLemmas.{adds_all, adds_first, adds_next}
use Rattle.ux_automaton.proofs.front_index.add_edges.Goals as goal

pub loop-edge-init : goal.loop-edge-init
loop-edge-init c = adds_first (λ (edge : Edge) (fitting : Fitting).
    IsFitted c.args.masked.now.alphabet.now (different_texts c.args.masked.now.text.now) edge.label
    fitting.number × (fitting.stand ≡ c.args.stand)) (Contains c.args.fittings.now.items)
    c.args.edges.now

pub loop-edge-preserved : goal.loop-edge-preserved
loop-edge-preserved c = adds_next (λ (edge : Edge) (fitting : Fitting).
    IsFitted c.args.masked.now.alphabet.now (different_texts c.args.masked.now.text.now) edge.label
    fitting.number × (fitting.stand ≡ c.args.stand)) (Contains c.args.fittings.now.items)
    (Contains c.loop-edge.fittings.items) (Contains c.add_edge.new.fittings.items) c.args.edges.now
    c.loop-edge.edge-index c.edge-item.result c.loop-edge-test.true c.edge-item.is
    c.loop-edge.invariant c.in_ok-add_edge.ensures

pub returns : goal.returns
returns c = adds_all (λ (edge : Edge) (fitting : Fitting).
    IsFitted c.args.masked.now.alphabet.now (different_texts c.args.masked.now.text.now) edge.label
    fitting.number × (fitting.stand ≡ c.args.stand)) (Contains c.args.fittings.now.items)
    (Contains c.loop-edge.fittings.items) c.args.edges.now c.loop-edge.edge-index
    c.loop-edge-test.false c.loop-edge.invariant
