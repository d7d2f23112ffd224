use Rattle.std.proofs.Common.{arith, ◌∙◌, sym}
use Rattle.std.proofs.lemmas.Bool.{false≢true}
use Rattle.std.proofs.lemmas.Option.{slice_get_within}
use Rattle.ux_net.specs.Whole.{whole_states_of}
use Rattle.ux_reading_match.proofs.UsableLemmas.{bad_in, whole_long}
use Rattle.ux_reading_match.proofs.usability.first_in.Goals as goal

pub loop-node-preserved : goal.loop-node-preserved
loop-node-preserved c = λ m less bad.
    bad_in c.args.net.now c.args.graph c.loop-node.node c.whole_edges.result.now c.loop-node.invariant
    c.whole_edges.ensures (λ h. false≢true (sym c.if-has_bad.false ∙ c.has_bad.ensures.1 h)) m less bad

pub returns : goal.returns
returns c = λ n bad.
    c.loop-node.invariant n (
    let w = slice_get_within (whole_states_of c.args.net.now c.args.graph) n bad.state bad.found in
    let count = c.states-node-end.ensures.count in
    let same = whole_long c.args.net.now c.args.graph in
    omega (arith, w, count, same, c.loop-node-test.false)) bad
