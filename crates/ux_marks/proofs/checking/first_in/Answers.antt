use Rattle.std.proofs.Common.{arith, ◌∙◌, sym}
use Rattle.std.proofs.lemmas.Bool.{false≢true}
use Rattle.ux_marks.specs.Marks.{IsBadState}
use Rattle.ux_marks.proofs.BadLemmas.{bad_within, none_next}
use Rattle.ux_marks.proofs.checking.first_in.Goals as goal

pub returns-then-is_bad_state : goal.returns-then-is_bad_state
returns-then-is_bad_state c = (c.is_bad_state.ensures.0 c.if-is_bad_state.true, c.loop-node.invariant)

pub loop-node-preserved : goal.loop-node-preserved
loop-node-preserved c =
    none_next (IsBadState c.args.net.now c.args.graph) c.loop-node.node c.loop-node.invariant
    (λ bad. false≢true (sym c.if-is_bad_state.false ∙ c.is_bad_state.ensures.1 bad))

pub returns : goal.returns
returns c = λ n bad.
    c.loop-node.invariant n (
    let within = bad_within c.args.net.now c.args.graph n bad in
    let count = c.states-node-end.ensures.count in
    omega (arith, within, count, c.loop-node-test.false)) bad
