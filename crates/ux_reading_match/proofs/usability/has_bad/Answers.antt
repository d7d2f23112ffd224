use Rattle.std.proofs.Common.{◌∙◌, List, subst, sym}
use Rattle.std.specs.Prelude.{Contains}
use Rattle.std.proofs.lemmas.Bool.{false≢true}
use Rattle.ux_base.proofs.Lists.{take_whole}
use Rattle.ux_net.specs.declared.state.Edge.{Edge}
use Rattle.ux_reading_match.specs.Usable.{IsBadLabel}
use Rattle.ux_reading_match.proofs.UsableLemmas.{none_more}
use Rattle.ux_reading_match.proofs.usability.has_bad.Goals as goal

pub loop-edge-preserved : goal.loop-edge-preserved
loop-edge-preserved c = none_more (λ (edge : Edge). IsBadLabel edge.label) c.args.edges.now c.loop-edge.edge-index c.edge-item.result
    c.loop-edge-test.true c.edge-item.is c.loop-edge.invariant
    (λ bad. false≢true (sym c.if-is_bad.false ∙ c.is_bad.ensures.1 bad))

pub returns : goal.returns
returns c = (
  λ t. absurd (false≢true t),
  λ h. absurd (c.loop-edge.invariant h.0 (subst (λ (l : List Edge). Contains l h.0)
      (sym (take_whole c.args.edges.now c.loop-edge.edge-index c.loop-edge-test.false)) h.1) h.2),
)
