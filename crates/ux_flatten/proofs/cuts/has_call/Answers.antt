use Rattle.std.proofs.Common.{◌≡◌, ◌∙◌, ap, false, true}
use Rattle.std.specs.Option.{is_some}
use Rattle.ux_flatten.proofs.CutLemmas.{calls_none, none_calls}
use Rattle.ux_flatten.proofs.cuts.has_call.Goals as goal

pub loop-edge-preserved : goal.loop-edge-preserved
loop-edge-preserved c =
    none_calls c.args.edges.now c.loop-edge.edge-index c.edge-item.result c.loop-edge-test.true
    c.edge-item.is
    (λ h calls.
    let both : false ≡ true =
    c.if-is_some.ensures ∙ (ap is_some c.called.ensures ∙ ap is_some calls) in cc)
    c.loop-edge.invariant

pub returns : goal.returns
returns c = (
  λ t. absurd (let both : false ≡ true = t in cc),
  λ call. absurd (calls_none c.args.edges.now c.loop-edge.edge-index c.loop-edge-test.false
      c.loop-edge.invariant call),
)
