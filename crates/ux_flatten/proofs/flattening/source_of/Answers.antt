use Rattle.std.proofs.Common.{◌∙◌, List, Bool, subst, subst₂, sym}
use Rattle.ux_net.specs.declared.state_graph.StateGraph.{StateGraph}
use Rattle.ux_net.specs.StateGraphs.{state_grammar}
use Rattle.ux_admission.specs.ContextClose.{AreClosed}
use Rattle.ux_flatten.specs.Making.{AreSizes, word_at}
use Rattle.ux_flatten.proofs.flattening.source_of.Goals as goal

pub words_of-requires-clause-closed : goal.words_of-requires-clause-closed
words_of-requires-clause-closed c =
    subst (λ (l : List StateGraph). AreClosed (state_grammar l))
    (sym (c.deref.ensures.value ∙ c.in_ok-graphs.ensures.graphs)) c.requires.closed

pub returns-clause-sizes : goal.returns-clause-sizes
returns-clause-sizes c =
    subst₂ (λ (l : List StateGraph) (marks : List Bool).
    AreSizes l (word_at marks) c.args.depth c.in_ok-sizes.sizes.items)
    c.deref-2.ensures.value c.deref-3.ensures.value c.in_ok-sizes.ensures
