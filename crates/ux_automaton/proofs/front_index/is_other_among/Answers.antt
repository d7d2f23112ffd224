use Rattle.std.proofs.Common.{refl, subst, sym}
use Rattle.std.specs.Prelude.{Contains}
use Rattle.std.proofs.lemmas.List.Elements.{Contains-get_or}
use Rattle.ux_net.specs.declared.state.Edge.{Edge}
use Rattle.ux_walk.specs.Literals.{IsLiteral}
use Rattle.ux_automaton.proofs.AddingLemmas.{each_all, each_next}
use Rattle.ux_automaton.proofs.front_index.is_other_among.Goals as goal

pub loop-edge-preserved : goal.loop-edge-preserved
loop-edge-preserved c = each_next c.args.edges.now c.loop-edge.edge-index
    (λ (edge : Edge). IsLiteral edge.label) c.edge-item.result c.loop-edge-test.true c.edge-item.is
    c.loop-edge.invariant (c.is_literal.ensures.0 c.if-not-is_literal.false)

pub returns-then-not-is_literal : goal.returns-then-not-is_literal
returns-then-not-is_literal c = (
  λ yes. (
    c.edge-item.result,
    subst (Contains c.args.edges.now) (sym c.edge-item.is)
        (Contains-get_or c.args.edges.now c.loop-edge.edge-index c.edge-item.result
        c.loop-edge-test.true),
    λ literal. let is = c.is_literal.ensures.1 literal in let no = c.if-not-is_literal.true in cc,
  ),
  λ h. refl,
)

pub returns : goal.returns
returns c = (
  λ yes. cc,
  λ h. absurd (h.2 (each_all c.args.edges.now c.loop-edge.edge-index
      (λ (edge : Edge). IsLiteral edge.label) c.loop-edge-test.false c.loop-edge.invariant h.0 h.1)),
)
