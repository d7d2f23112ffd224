use Rattle.std.proofs.Common.{List, subst}
use Rattle.ux_net.specs.declared.state.Edge.{Edge}
use Rattle.ux_walk.specs.EdgeIndexes.{IsIndexOf}
use Rattle.ux_text_chart.specs.NetTables.{IsTokenAt}
use Rattle.ux_text_chart.specs.declared.net_tables.TokenAt.{TokenAt}
use Rattle.ux_text_chart.proofs.StateIndexLemmas.{kept_enough}
use Rattle.ux_text_chart.proofs.net_tables.NetTables.places.Goals as goal

pub returns : goal.returns
returns c = λ alphabet tables net serve (state, found, is).
    let tokens = c.args.text.now in
    let texts = serve.texts in
    kept_enough alphabet tokens tables texts c.args.edges.now c.in_ok-places.places.items c.args.at
    c.in-Number.number
    (subst (λ (token : TokenAt). IsTokenAt texts tokens c.args.at token) c.in-Number.is
    (c.token_at.ensures alphabet texts serve.numbering))
    (λ text numbered. c.in_ok-places.ensures alphabet texts c.args.edges.now
    text (subst (λ (l : List Edge). IsIndexOf alphabet texts l c.in-Some.index.now) is
    (serve.by.look_ups.indexes c.args.state c.in-Some.index.now c.in-Some.ensures state found)) numbered)
