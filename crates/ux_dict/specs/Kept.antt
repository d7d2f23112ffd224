-- What a dictionary keeps beside its entries, and how it takes up its entries. Inner: the crate's
-- own functions alone speak of it.
use Rattle.std.specs.Prelude.{◌≡◌, ℕ, List, Bool, false, All, Contains, IsTrue, IsUtf8, map, slice_index_or}
use Rattle.std.specs.List.Sorted.{IsStrictlyIncreasing}
use Rattle.std.specs.Str.{chars}
use Rattle.ux_dela.specs.declared.entry.Entry.{Entry}
use Rattle.ux_dict.specs.Content.{IsDictionary}
use Rattle.ux_dict.specs.Forms.{longest_of}
use Rattle.ux_dict.specs.Keys.{key_of}

-- the form is text, and each of its characters is one of these
pub record IsSpelled (letters : List ℕ) (entry : Entry) : Type 0 where
  pub utf8 : IsUtf8 entry.form
  pub inside : All (Contains letters) (chars entry.form)

-- each marked character is one of the letters
abbrev pub AreMarksOf : (letters : List ℕ) → (marks : List Bool) → Type 0
AreMarksOf letters marks =
    (c : ℕ) → IsTrue (slice_index_or marks c false) → Contains letters c

-- the entries are a dictionary's, with their keys, all characters of their forms and the longest
-- form's length
pub record IsKept (entries : List Entry) (keys letters : List ℕ) (longest : ℕ) : Type 0 where
  pub dictionary : IsDictionary entries
  pub keyed : keys ≡ map key_of entries
  pub spelled : All (IsSpelled letters) entries
  pub increasing : IsStrictlyIncreasing letters
  pub longest_is : longest ≡ longest_of entries
