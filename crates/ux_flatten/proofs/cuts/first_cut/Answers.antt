use Rattle.std.proofs.Common.{Bool, List, subst, subst₂}
use Rattle.ux_net.specs.declared.state_graph.StateGraph.{StateGraph}
use Rattle.ux_net.specs.StateGraphs.{state_grammar}
use Rattle.ux_admission.specs.Spots.{FindsFirst}
use Rattle.ux_flatten.specs.Cuts.{IsNegativeCut}
use Rattle.ux_flatten.specs.Cutting.{IsCutState}
use Rattle.ux_flatten.specs.Making.{has_word}
use Rattle.ux_flatten.specs.Negative.{AreNegativeRows}
use Rattle.ux_flatten.proofs.CutLemmas.{finds_same}
use Rattle.ux_flatten.proofs.CutsLaw.{cut_told, told_cut}
use Rattle.ux_flatten.proofs.cuts.first_cut.Goals as goal

pub returns : goal.returns
returns c =
    let source = c.args.source.now in
    let graphs = source.graphs.items in
    let rows = c.in_ok-negative.negative.items in
    let made = c.in_ok-made.made in
    let are = subst (λ (l : List StateGraph). AreNegativeRows l rows) c.deref.ensures.value
    c.in_ok-negative.ensures in
    finds_same (IsCutState graphs rows made) (IsNegativeCut (state_grammar graphs) c.args.depth)
    (cut_told graphs (has_word source) c.requires.tells rows are c.args.depth made
    c.in_ok-made.ensures)
    (told_cut graphs (has_word source) c.requires.tells rows are c.args.depth made
    c.in_ok-made.ensures) c.first_in.result
    (subst₂ (λ (l : List StateGraph) (r : List (List Bool)). FindsFirst (IsCutState l r made)
    c.first_in.result) c.deref-3.ensures.value c.deref-4.ensures.value c.first_in.ensures)
