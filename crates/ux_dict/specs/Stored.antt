-- Which entry is kept: its lemma is the form where none is noted. Inner: the crate's own functions
-- alone speak of it.
use Rattle.std.specs.Prelude.{ℕ, List, Option, unwrap_or}
use Rattle.ux_dela.specs.declared.entry.Codes.{Codes}
use Rattle.ux_dela.specs.declared.entry.Entry.{Entry}

-- the entry of this form, with the lemma that is noted, and these codes
abbrev pub entry_of : (form : List ℕ) (lemma : Option (List ℕ)) → Codes → Entry
entry_of form lemma codes = record {
  form = form;
  lemma = unwrap_or lemma form;
  gram = codes.gram;
  sem = codes.sem;
  infl = codes.infl;
}
