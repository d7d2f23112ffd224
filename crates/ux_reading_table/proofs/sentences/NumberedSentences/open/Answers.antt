use Rattle.ux_reading_table.proofs.sentences.NumberedSentences.open.Goals as goal

-- the text has a head line
pub unreachable-requires : goal.unreachable-requires
unreachable-requires c = c.in-Err.ensures.err.1 c.requires.1.0 c.requires.1.1
