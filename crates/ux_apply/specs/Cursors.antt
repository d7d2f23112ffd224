-- Where a text leads in the dictionaries. Inner: the crate's own functions alone speak of it.
use Rattle.std.specs.Prelude.{◌≡◌, ℕ, List, IsUtf8}
use Rattle.std.specs.List.{AllZip}
use Rattle.ux_alphabet.specs.Letters.{Letters}
use Rattle.ux_dela.specs.declared.entry.Entry.{Entry}
use Rattle.ux_lexicon.specs.Reached.{IsReachedBy}
use Rattle.ux_apply.specs.declared.cursors.Cursor.{Cursor}
use Rattle.ux_apply.specs.declared.priority.Priority.{Priority}

-- the cursor has the priority of the dictionary, and the place in it to which the text leads
pub record IsCursor (alphabet : Letters) (text : List ℕ) (dic : Priority × List Entry)
    (cursor : Cursor) : Type 0 where
  pub priority : cursor.priority ≡ dic.0
  pub leads : IsReachedBy alphabet dic.1 text cursor.reached

-- the text leads to the cursors, one in each dictionary
pub record AreReachedBy (alphabet : Letters) (dics : List (Priority × List Entry)) (text : List ℕ)
    (cursors : List Cursor) : Type 0 where
  pub utf8 : IsUtf8 text
  pub each : AllZip (IsCursor alphabet text) dics cursors

-- it is so of all dictionaries in which the text leads to the cursors, by any alphabet
abbrev pub WhereLed : (text : List ℕ) → List Cursor →
    (Letters → List (Priority × List Entry) → Type 0) → Type 0
WhereLed text cursors IsSo = (alphabet : Letters) (dics : List (Priority × List Entry)) →
    AreReachedBy alphabet dics text cursors → IsSo alphabet dics

-- it is so of all dictionaries in which the text leads to the cursors, by this alphabet
abbrev pub WhereLedBy : Letters → (text : List ℕ) → List Cursor →
    (List (Priority × List Entry) → Type 0) → Type 0
WhereLedBy alphabet text cursors IsSo = (dics : List (Priority × List Entry)) →
    AreReachedBy alphabet dics text cursors → IsSo dics
