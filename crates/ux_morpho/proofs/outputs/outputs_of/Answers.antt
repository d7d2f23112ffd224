use Rattle.ux_morpho.proofs.outputs.outputs_of.Goals as goal

pub counted_outputs-requires-clause-tables : goal.counted_outputs-requires-clause-tables
counted_outputs-requires-clause-tables c = c.requires.ready.tables c.args.letters.now
