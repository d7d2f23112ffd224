use Rattle.ux_text_chart.proofs.net_tables.NetTables.numbered.Goals as goal

pub returns-clause-tables : goal.returns-clause-tables
returns-clause-tables c = record {
  prepared = c.in_ok-prepared.ensures;
  index = c.in_ok-index.ensures;
  look_ups = c.in_ok-look_ups.ensures;
}
