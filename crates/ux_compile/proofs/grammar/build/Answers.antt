use Rattle.std.proofs.Common.{arith, ◌≡◌, ◌+◌, List, [], suc, get_or, sym, subst, ◌∙◌}
use Rattle.std.proofs.lemmas.Grind.{common_steps}
use Rattle.ux_net.specs.declared.net_graph.NetGraph.{NetGraph}
use Rattle.ux_compile.specs.Construct.{AreFit}
use Rattle.ux_boxes.specs.Places.{places_of}
use Rattle.ux_compile.proofs.ClosingsLemmas.{rows_inside}
use Rattle.ux_compile.proofs.CompileLemmas.{AreBuiltTo, built_more, built_at}
use Rattle.ux_boxes.proofs.NumbersLemmas.{graph_so_at, places_at, offset_room}
use Rattle.ux_compile.proofs.grammar.build.Goals as goal

pub build_graph-requires-clause-room : goal.build_graph-requires-clause-room
build_graph-requires-clause-room c =
    let places = c.args.places.now in
    let i = c.loop-number.number in
    let within = c.loop-number-test.true in
    let n = c.requires.count in
    offset_room places c.args.offsets.now c.requires.offsets i c.as_slice-places.result.now
    (omega (arith, within, n))
    (c.as_slice-places.ensures ∙ (c.index-places-number.is
    ∙ (sym (places_at places i c.index-places-number.result (omega (arith, within, n)))
    ∙ places_at places i [] (omega (arith, within, n)))))

pub build_graph-requires-clause-inside : goal.build_graph-requires-clause-inside
build_graph-requires-clause-inside c =
    let places = c.args.places.now in
    let i = c.loop-number.number in
    let within = c.loop-number-test.true in
    let n = c.requires.count in
    let same : c.as_slice-places.result.now ≡ places_of places (suc i) =
    c.as_slice-places.ensures ∙ (c.index-places-number.is
    ∙ sym (places_at places i c.index-places-number.result (omega (arith, within, n)))) in
    rows_inside places c.args.offsets.now c.args.closers.now c.requires.offsets
    c.requires.closing i c.as_slice-places.result.now (omega (arith, within, n)) same
    (subst AreFit (sym same)
    (graph_so_at AreFit places c.requires.fit (suc i) (omega arith) (omega (arith, within, n))))

pub loop-number-preserved : goal.loop-number-preserved
loop-number-preserved c =
    let names = c.args.names.now in
    let places = c.args.places.now in
    let rows = c.args.closers.now in
    let ranks = c.args.admission.now.ranks.items in
    let free = c.args.admission.now.free.items in
    let i = c.loop-number.number in
    let within = c.loop-number-test.true in
    let n = c.requires.count in
    subst (λ (net : List NetGraph). AreBuiltTo names places rows ranks free net (i + 1))
    (sym c.in_ok-push.ensures.items)
    (built_more names places rows ranks free c.loop-number.net.items i
    c.index-names-number.result c.in_ok-build_graph.field-0 within c.index-names-number.is
    c.loop-number.invariant
    (built_at places rows ranks free i (get_or c.args.offsets.now i 0)
    c.as_slice-places.result.now c.index-places-number.result c.in_ok-build_graph.field-0
    (omega (arith, within, n)) c.index-places-number.is c.as_slice-places.ensures
    (c.requires.offsets.offset i (omega (arith, within, n))) c.in_ok-build_graph.ensures.built)
    (c.in_ok-build_graph.ensures.name ∙ c.as_str.ensures.value))

pub returns-clause-names : goal.returns-clause-names
returns-clause-names c = grind (arith, common_steps)
