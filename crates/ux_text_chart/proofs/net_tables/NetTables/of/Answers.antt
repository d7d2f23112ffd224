use Rattle.ux_text_chart.proofs.NetTablesLemmas.{own_tables}
use Rattle.ux_text_chart.proofs.net_tables.NetTables.of.Goals as goal

pub returns : goal.returns
returns c = own_tables c.args.alphabet.now c.args.text.now c.args.net.now c.numbered.result
    c.numbered.ensures.tables c.numbered.ensures.own
