use Rattle.std.proofs.Common.{◌≡◌, Bool, false, subst, sym, true}
use Rattle.ux_flatten.specs.Cutting.{Cuts}
use Rattle.ux_flatten.proofs.CutLemmas.{none_here, none_past}
use Rattle.ux_flatten.proofs.cuts.first_state.Goals as goal

pub loop-node-preserved : goal.loop-node-preserved
loop-node-preserved c =
    let n = c.args.copied.is_negative in
    let m = c.args.copied.is_copied in
    none_here c.args.states.now c.args.negative.now n m c.loop-node.node c.index-states-node.result
    c.loop-node-test.true c.index-states-node.is
    (λ cut call.
    let both : false ≡ true = c.if-is_cut.ensures.1 (
      subst (λ (b : Bool). Cuts n m b) (sym c.is_mark.ensures) cut,
      call,
    ) in cc) c.loop-node.invariant

pub returns : goal.returns
returns c =
    none_past c.args.states.now c.args.negative.now c.args.copied.is_negative
    c.args.copied.is_copied c.loop-node.node c.loop-node-test.false c.loop-node.invariant
