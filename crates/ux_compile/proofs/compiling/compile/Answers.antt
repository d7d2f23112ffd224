use Rattle.std.proofs.Common.{List, map, sym, subst}
use Rattle.ux_net.specs.declared.net_graph.NetGraph.{NetGraph}
use Rattle.ux_boxes.specs.Boxes.{box_grammar}
use Rattle.ux_admission.specs.SoundGrammar.{IsSoundGrammar}
use Rattle.ux_net.specs.Nets.{net_grammar}
use Rattle.ux_net.specs.StateGraphs.{AreInsideStates, state_grammar}
use Rattle.ux_net.specs.Whole.{told_graph}
use Rattle.ux_boxes.specs.Refusing.{drawn}
use Rattle.ux_net.specs.Words.{SayTheSame}
use Rattle.ux_compile.proofs.compiling.compile.Goals as goal

pub returns-clause-words : goal.returns-clause-words
returns-clause-words c =
    subst (λ (net : List NetGraph).
    SayTheSame (box_grammar c.args.alphabet.now (drawn c.args.graphs.items)) (net_grammar net))
    (sym c.of.ensures) c.in_ok-net.ensures.words

pub returns-clause-admitted : goal.returns-clause-admitted
returns-clause-admitted c =
    subst (λ (net : List NetGraph). IsSoundGrammar (state_grammar (map told_graph net)))
    (sym c.of.ensures) c.in_ok-net.ensures.admitted

pub returns-clause-inside : goal.returns-clause-inside
returns-clause-inside c =
    subst (λ (net : List NetGraph). AreInsideStates (map told_graph net)) (sym c.of.ensures)
    c.in_ok-net.ensures.sound.whole
