-- The parts of readings that are entries. Public: the crate's public contracts speak of it.
use Rattle.ux_dela.specs.declared.entry.Entry.{Entry}
use Rattle.ux_reading_table.specs.declared.entry_parts.EntryParts.{EntryParts}

-- the entry of these parts
abbrev pub entry_of : EntryParts → Entry
entry_of parts = record {
  form = parts.form.now;
  lemma = parts.lemma.now;
  gram = parts.codes.now.gram;
  sem = parts.codes.now.sem;
  infl = parts.codes.now.infl;
}
