use Rattle.ux_reading_table.proofs.table.ReadingTable.of_noted.Goals as goal

pub invariant_of-result : goal.invariant_of-result
invariant_of-result c = (
  record {
    are_texts = record { different = c.requires.noted.different; each = c.requires.texts };
    numbered = c.requires.noted.numbered;
    few = c.requires.noted.few;
  },
  c.requires.noted.known,
  c.requires.noted.likes.alike,
)
