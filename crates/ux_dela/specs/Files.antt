-- How a dictionary file is read: each line by itself, up to the first one that is refused. Public:
-- the crate's public contracts speak of it.
use Rattle.std.specs.Prelude.{◌≡◌, ℕ, List, length}
use Rattle.ux_base.specs.EachLine.{AreSaid, IsRefused}
use Rattle.ux_base.specs.Lines.{lines_of}
use Rattle.ux_dela.specs.declared.entry.Entry.{Entry}
use Rattle.ux_dela.specs.declared.entry.Stem.{Stem}
use Rattle.ux_dela.specs.declared.error.DelaError.{DelaError}
use Rattle.ux_dela.specs.Delaf.{DelafSays, RefusesDelaf}
use Rattle.ux_dela.specs.Delas.{DelasSays, RefusesDelas}

-- the entries of a file of forms
abbrev pub AreEntries : List ℕ → List Entry → Type 0
AreEntries text entries = AreSaid DelafSays (lines_of text) entries

-- why a file of forms is refused; lines count from 1
abbrev pub Refuses : List ℕ → DelaError → Type 0
Refuses text error = IsRefused DelafSays RefusesDelaf 1 (lines_of text) error

-- the lemmas of a file of lemmas
abbrev pub AreStems : List ℕ → List Stem → Type 0
AreStems text stems = AreSaid DelasSays (lines_of text) stems

-- why a file of lemmas is refused
abbrev pub RefusesStems : List ℕ → DelaError → Type 0
RefusesStems text error = IsRefused DelasSays RefusesDelas 1 (lines_of text) error

-- so many are said by the text, equal ones each time
pub record HasCount {T : Type 0} (AreOf : List ℕ → List T → Type 0) (text : List ℕ) (count : ℕ) :
    Type 0 where
  pub said : List T
  pub are : AreOf text said
  pub is : count ≡ length said

-- the number of entries of a file of forms
abbrev pub IsEntryCount : List ℕ → ℕ → Type 0
IsEntryCount text count = HasCount AreEntries text count

-- the number of lemmas of a file of lemmas
abbrev pub IsStemCount : List ℕ → ℕ → Type 0
IsStemCount text count = HasCount AreStems text count
