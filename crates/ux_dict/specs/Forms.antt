-- Which forms fit a text. The manual, on the application of dictionaries: a lower-case letter of a
-- dictionary also fits its upper-case forms, and an upper-case letter fits itself alone. Public:
-- the crate's public contracts speak of it.
use Rattle.std.specs.Prelude.{◌≡◌, ℕ, max, List, [], ◌∷◌, ◌++◌, Any, bytes_eq, count_by, length}
use Rattle.std.specs.List.{AllZip}
use Rattle.std.specs.Str.{chars}
use Rattle.ux_alphabet.specs.Letters.{Letters, Fits}
use Rattle.ux_dela.specs.declared.entry.Entry.{Entry}

-- form and text have as many characters, and each of the form fits that of the text
abbrev pub FitsForm : Letters → (form text : List ℕ) → Type 0
FitsForm alphabet form text = AllZip (Fits alphabet) (chars form) (chars text)

-- the form has a front that fits the text
abbrev pub BeginsFitting : Letters → (form text : List ℕ) → Type 0
BeginsFitting alphabet form text = (front rest : List ℕ) × (chars form ≡ front ++ rest)
    × AllZip (Fits alphabet) front (chars text)

-- some entry has a form with a front that fits the text
abbrev pub MayBegin : Letters → (text : List ℕ) → List Entry → Type 0
MayBegin alphabet text content = Any (λ entry. BeginsFitting alphabet entry.form text) content

-- the second list has the members of the first one with the property, in order
pub data IsChosen {X : Type 0} (P : X → Type 0) : (all chosen : List X) → Type 0 where
  none : IsChosen P [] []
  kept : {x : X} {all chosen : List X} → P x → IsChosen P all chosen →
      IsChosen P (x ∷ all) (x ∷ chosen)
  left : {x : X} {all chosen : List X} → (P x → ⊥) → IsChosen P all chosen →
      IsChosen P (x ∷ all) chosen

-- what is found are the entries of the content whose forms fit the text, in order
abbrev pub IsFitting : Letters → (text : List ℕ) → (content found : List Entry) → Type 0
IsFitting alphabet text content found =
    IsChosen (λ entry. FitsForm alphabet entry.form text) content found

-- how many entries have exactly this form
abbrev pub count_of : (form : List ℕ) → List Entry → ℕ
count_of form content = count_by (λ entry. bytes_eq entry.form form) content

-- how many characters the longest form has, 0 where there is none
abbrev pub longest_of : List Entry → ℕ
longest_of [] = 0
longest_of (entry ∷ content) = max (length (chars entry.form)) (longest_of content)
