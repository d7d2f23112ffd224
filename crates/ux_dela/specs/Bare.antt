-- Lines of forms that mean what is written. The manual, on the DELAF format. Public: the crate's
-- public contracts speak of it.
use Rattle.std.specs.Prelude.{ℕ, List, [], ◌∷◌}
use Rattle.ux_dela.specs.Delaf.{DelafSays}
use Rattle.ux_dela.specs.Printed.{IsCodesText}
use Rattle.ux_dela.specs.declared.bare.BareLine.{BareLine}
use Rattle.ux_dela.specs.declared.entry.Codes.{Codes}
use Rattle.ux_dela.specs.declared.entry.Entry.{Entry}

-- the entry of these parts, with these codes
abbrev pub bare_entry : BareLine → Codes → Entry
bare_entry bare codes = record {
  form = bare.form.now;
  lemma = bare.lemma.now;
  gram = codes.gram;
  sem = codes.sem;
  infl = codes.infl;
}

-- the line says the entry of these parts alone, with the codes of which its text is what is printed
abbrev pub IsBareLine : List ℕ → BareLine → Type 0
IsBareLine line bare = (codes : Codes) → IsCodesText bare.codes.now codes →
    DelafSays line (bare_entry bare codes ∷ [])
