use Rattle.std.proofs.Common.{◌≡◌, List, ◌++◌, ◌∷◌, [], ◌+◌, sym, subst, ap, ◌∙◌, take}
use Rattle.ux_tokens.specs.Numbers.{texts_in}
use Rattle.ux_boxes.specs.declared.place.Place.{Place}
use Rattle.ux_boxes.proofs.SplitGraphs.{AreSplitTo, split_more, split_all}
use Rattle.ux_compile.proofs.grammar.split_graphs.Goals as goal

pub loop-graph-preserved : goal.loop-graph-preserved
loop-graph-preserved c =
    let alphabet = c.args.alphabet.now in
    let names = texts_in c.args.names.now in
    let graphs = c.args.graphs.now in
    let places : List (List Place) = c.loop-graph.places.items in
    let one : List Place = c.in_ok-split_graph.field-0.items in
    let grown : c.push.new.self.items ≡ places ++ one ∷ [] =
    c.in_ok-push.ensures.items ∙ ap (λ (p : List Place). places ++ p ∷ []) c.new.ensures in
    subst (AreSplitTo alphabet names (take (c.loop-graph.graph-index + 1) graphs))
    (sym {A = List (List Place)} grown)
    (split_more alphabet names graphs c.loop-graph.graph-index c.loop-graph-item.result places
    one c.loop-graph-test.true c.loop-graph-item.is c.loop-graph.invariant
    c.in_ok-split_graph.ensures)

pub returns : goal.returns
returns c =
    split_all c.args.alphabet.now c.args.graphs.now (texts_in c.args.names.now)
    c.loop-graph.places.items c.loop-graph.graph-index c.loop-graph-test.false
    c.requires.names c.loop-graph.invariant
