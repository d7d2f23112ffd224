use Rattle.std.proofs.Common.{List, subst}
use Rattle.ux_net.specs.declared.net_graph.NetGraph.{NetGraph}
use Rattle.ux_text_chart.specs.NetTables.{AreTablesFor}
use Rattle.ux_text_chart.proofs.text_basis.TextBasisBasis.places.Goals as goal

pub returns : goal.returns
returns c = λ net parts serves edges.
    let text = c.args.self.now.text.now in
    c.places.ensures text.alphabet.now text.applied.now net
    (subst (λ (l : List NetGraph). AreTablesFor text.alphabet.now text.text.now l
    c.args.self.now.tables.now) serves.net_is serves.tables_are) edges
