use Rattle.ux_reading_table.proofs.table.ReadingTable.of.Goals as goal

pub returns-clause-ok : goal.returns-clause-ok
returns-clause-ok c = c.in_ok-read.ensures.ok.table
