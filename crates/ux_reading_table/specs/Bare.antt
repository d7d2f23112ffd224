-- Texts of entries in which no sign is protected, and the codes that are known. Inner: the crate's
-- own functions alone speak of it.
use Rattle.std.specs.Prelude.{◌≡◌, ◌≢◌, ℕ, Bool, false, ◌||◌, List, [], ◌∷◌, ◌++◌, Some, slice_get}
use Rattle.std.specs.List.{AllZip, list_any}
use Rattle.ux_dela.specs.Printed.{IsCodesText}
use Rattle.ux_dela.specs.Signs.{COMMA, DOT, is_form_sign, is_slash}
use Rattle.ux_dela.specs.Sound.{is_feed}
use Rattle.ux_dela.specs.declared.entry.Codes.{Codes}
use Rattle.ux_dela.specs.declared.entry.Entry.{Entry}
use Rattle.ux_sentence.specs.Written.{OPENING_BRACE, CLOSING_BRACE}
use Rattle.ux_reading_table.specs.declared.bare.BareParts.{BareParts}
use Rattle.ux_reading_table.specs.declared.codes.KnownCodes.{KnownCodes}
use Rattle.ux_reading_table.specs.Noting.{spellings}

-- a sign that form or lemma can't have bare
abbrev pub is_special : ℕ → Bool
is_special b = is_form_sign b || (is_slash b || is_feed b)

-- no such sign stands in the text
abbrev pub IsBareText : List ℕ → Type 0
IsBareText text = list_any is_special text ≡ false

-- the text has these parts between braces
pub record HasParts (text : List ℕ) (parts : BareParts) : Type 0 where
  pub whole : text ≡ OPENING_BRACE ∷ ((parts.form.now ++ COMMA ∷ (parts.lemma.now
      ++ DOT ∷ parts.codes.now)) ++ CLOSING_BRACE ∷ [])
  pub some : parts.form.now ≢ []
  pub other : parts.lemma.now ≢ parts.form.now
  pub bare_form : IsBareText parts.form.now
  pub bare_lemma : IsBareText parts.lemma.now

-- the lemma, which is the form where none is written
abbrev pub lemma_or : (form lemma : List ℕ) → List ℕ
lemma_or form [] = form
lemma_or form (b ∷ lemma) = b ∷ lemma

-- the entry of these parts and codes
abbrev pub bare_entry : BareParts → Codes → Entry
bare_entry parts codes = record {
  form = parts.form.now;
  lemma = lemma_or parts.form.now parts.lemma.now;
  gram = codes.gram;
  sem = codes.sem;
  infl = codes.infl;
}

-- beside each text stand the codes for which it is printed
abbrev pub AreKnown : KnownCodes → Type 0
AreKnown known = AllZip IsCodesText (spellings known.texts) known.codes.items

-- codes stay at their places
abbrev pub KeepsCodes : (old new : List Codes) → Type 0
KeepsCodes old new =
    (place : ℕ) (one : Codes) → slice_get old place ≡ Some one → slice_get new place ≡ Some one
