-- What is printed for the entry of an unprotected text is the text.
use Rattle.std.proofs.Common.{arith, ◌≡◌, ◌≢◌, ◌<◌, length, get_or, ℕ, zero, suc, List, [], ◌∷◌, ◌++◌, ◌||◌, Bool, true, false, Some, refl, sym, ◌∙◌, ap, subst}
use Rattle.std.specs.Prelude.{◌==◌, if◌then◌else◌, slice_get}
use Rattle.std.specs.List.{AllZip, list_any}
use Rattle.std.specs.Str.{bytes_eq}
use Rattle.std.proofs.lemmas.Bool.{or_from, or_parts}
use Rattle.std.proofs.lemmas.Slice.Eq.{bytes_eq-Decides}
use Rattle.std.proofs.lemmas.Option.{same_Some}
use Rattle.ux_dela.specs.Printed.{IsCodesText, printed, printed_codes, shield, shielded, shielded_form, shielded_lemma}
use Rattle.ux_dela.specs.Signs.{COMMA, DOT, SLASH, is_form_sign, is_slash}
use Rattle.ux_dela.specs.Sound.{HasNoFeed, IsSoundText, is_feed}
use Rattle.ux_dela.specs.Written.{protected, written}
use Rattle.ux_dela.specs.declared.entry.Codes.{Codes}
use Rattle.ux_sentence.proofs.ReadingLemmas.{spelled}
use Rattle.ux_sentence.specs.Readings.{IsReading, IsSpellable}
use Rattle.ux_sentence.specs.Written.{OPENING_BRACE, CLOSING_BRACE, reading_text}
use Rattle.ux_sentence.specs.declared.sentence.Reading.TheVariants.{Word}
use Rattle.ux_reading_table.specs.Alike.{IsEntryText}
use Rattle.ux_reading_table.specs.Bare.{HasParts, IsBareText, bare_entry, is_special, lemma_or}
use Rattle.ux_reading_table.specs.Noting.{IsSpelling}
use Rattle.ux_reading_table.specs.declared.bare.BareParts.{BareParts}

-- a byte that isn't special is written as it is
bare_sign : (b : ℕ) → is_special b ≡ false → is_form_sign b ≡ false
bare_sign b none = (or_parts (is_form_sign b) (is_slash b || is_feed b) none).0

no_slash : (b : ℕ) → is_special b ≡ false → (b == SLASH) ≡ false
no_slash b none =
    (or_parts (is_slash b) (is_feed b) (or_parts (is_form_sign b) (is_slash b || is_feed b) none).1).0

no_feed : (b : ℕ) → is_special b ≡ false → is_feed b ≡ false
no_feed b none =
    (or_parts (is_slash b) (is_feed b) (or_parts (is_form_sign b) (is_slash b || is_feed b) none).1).1

-- and so is each text without such bytes
bare_written : (text : List ℕ) → IsBareText text → written (shielded is_form_sign text) ≡ text
bare_written [] none = refl
bare_written (b ∷ text) none =
    let parts = or_parts (is_special b) (list_any is_special text) none in
    ap (λ (t : Bool). written (shield t b ∷ shielded is_form_sign text)) (bare_sign b parts.0)
    ∙ ap (λ (t : List ℕ). b ∷ t) (bare_written text parts.1)

form_written : (form : List ℕ) → IsBareText form → written (shielded_form form) ≡ form
form_written [] none = refl
form_written (b ∷ form) none =
    let parts = or_parts (is_special b) (list_any is_special form) none in
    ap (λ (t : Bool). written ((if t then protected b else shield (is_form_sign b) b)
    ∷ shielded is_form_sign form)) (no_slash b parts.0)
    ∙ (ap (λ (t : Bool). written (shield t b ∷ shielded is_form_sign form)) (bare_sign b parts.0)
    ∙ ap (λ (t : List ℕ). b ∷ t) (bare_written form parts.1))

bare_no_feed : (text : List ℕ) → IsBareText text → HasNoFeed text
bare_no_feed [] none = refl
bare_no_feed (b ∷ text) none =
    let parts = or_parts (is_special b) (list_any is_special text) none in
    or_from (is_feed b) (list_any is_feed text) (no_feed b parts.0) (bare_no_feed text parts.1)

-- texts that differ aren't equal
not_equal : (x y : List ℕ) → x ≢ y → bytes_eq x y ≡ false
not_equal x y other = by (bytes_eq x y) refl
  where
    by : (b : Bool) → bytes_eq x y ≡ b → bytes_eq x y ≡ false
    by true is = absurd (other ((bytes_eq-Decides x y).0 is))
    by false is = is

-- a lemma that is the form isn't written
lemma_written : (form lemma : List ℕ) → lemma ≢ form → IsBareText lemma →
    written (shielded_lemma form (lemma_or form lemma)) ≡ lemma
lemma_written form [] other none =
    ap (λ (t : Bool). written (if t then [] else shielded is_form_sign form))
    ((bytes_eq-Decides form form).1 refl)
lemma_written form (b ∷ lemma) other none =
    ap (λ (t : Bool). written (if t then [] else shielded is_form_sign (b ∷ lemma)))
    (not_equal (b ∷ lemma) form other)
    ∙ bare_written (b ∷ lemma) none

lemma_sound : (form lemma : List ℕ) → IsSoundText form → IsBareText lemma →
    IsSoundText (lemma_or form lemma)
lemma_sound form [] sound none = sound
lemma_sound form (b ∷ lemma) sound none =
    record { some = λ e. cc e; no_feed = bare_no_feed (b ∷ lemma) none }

module _ (text : List ℕ) (parts : BareParts) (codes : Codes) (has : HasParts text parts)
    (are : IsCodesText parts.codes.now codes) where
  body_printed : parts.form.now ++ COMMA ∷ (parts.lemma.now ++ DOT ∷ parts.codes.now)
      ≡ printed (bare_entry parts codes)
  body_printed =
      let form = parts.form.now in
      let lemma = parts.lemma.now in
      let entry = bare_entry parts codes in
      ap (λ (c : List ℕ). form ++ COMMA ∷ (lemma ++ DOT ∷ c)) are.printed
      ∙ (ap (λ (l : List ℕ). form ++ COMMA ∷ (l ++ DOT ∷ printed_codes entry))
      (sym (lemma_written form lemma has.other has.bare_lemma))
      ∙ ap (λ (f : List ℕ). f ++ COMMA ∷ (written (shielded_lemma form (lemma_or form lemma))
      ++ DOT ∷ printed_codes entry)) (sym (form_written form has.bare_form)))

  -- the entry can be spelled
  pub bare_spellable : IsSpellable (Word (bare_entry parts codes))
  bare_spellable =
      let form : IsSoundText parts.form.now =
      record { some = has.some; no_feed = bare_no_feed parts.form.now has.bare_form } in
      record {
        form = form;
        lemma = lemma_sound parts.form.now parts.lemma.now form has.bare_lemma;
        codes = are.sound;
      }

  -- and the text is what is printed for it
  pub bare_text : text ≡ reading_text (Word (bare_entry parts codes))
  bare_text =
      has.whole ∙ ap (λ (b : List ℕ). OPENING_BRACE ∷ (b ++ CLOSING_BRACE ∷ [])) body_printed

  -- it is the text of an entry with these codes
  pub bare_codes : IsEntryText text codes
  bare_codes = record {
    entry = bare_entry parts codes;
    sound = bare_spellable;
    text_is = bare_text;
    codes_are = refl;
  }

  -- and it says this entry
  pub bare_spelling : IsSpelling text text
  bare_spelling =
      let word = Word (bare_entry parts codes) in (
        word,
        subst (λ (t : List ℕ). IsReading t word) (sym bare_text) (spelled word bare_spellable),
        bare_text,
      )

-- codes stand beside a text
pub known_there : (texts : List (List ℕ)) (codes : List Codes) (place : ℕ) (text : List ℕ) →
    AllZip IsCodesText texts codes → slice_get texts place ≡ Some text →
    (one : Codes) × (slice_get codes place ≡ Some one) × IsCodesText text one
known_there [] codes place text are at = cc
known_there (x ∷ texts) [] place text are at = absurd are
known_there (x ∷ texts) (y ∷ codes) zero text are at =
    let same : x ≡ text = cc in
    (y, refl, subst (λ (t : List ℕ). IsCodesText t y) same are.0)
known_there (x ∷ texts) (y ∷ codes) (suc place) text are at =
    known_there texts codes place text are.1 at

-- and no others do
pub known_if : (texts : List (List ℕ)) (codes : List Codes) (place : ℕ) (text : List ℕ) →
    AllZip IsCodesText texts codes → slice_get texts place ≡ Some text → (one : Codes) →
    slice_get codes place ≡ Some one → IsCodesText text one
known_if texts codes place text are at one is =
    let found = known_there texts codes place text are at in
    subst (IsCodesText text) (same_Some found.0 one (sym found.1 ∙ is)) found.2

-- they stand within the list
pub known_within : (texts : List (List ℕ)) (codes : List Codes) (place : ℕ) (text : List ℕ) →
    AllZip IsCodesText texts codes → slice_get texts place ≡ Some text → place < length codes
known_within [] codes place text are at = cc
known_within (x ∷ texts) [] place text are at = absurd are
known_within (x ∷ texts) (y ∷ codes) zero text are at = omega arith
known_within (x ∷ texts) (y ∷ codes) (suc place) text are at =
    omega (arith, known_within texts codes place text are.1 at)

-- and it is what is printed for them
pub known_at : (texts : List (List ℕ)) (codes : List Codes) (place : ℕ) (text : List ℕ)
    (d : Codes) → AllZip IsCodesText texts codes → slice_get texts place ≡ Some text →
    IsCodesText text (get_or codes place d)
known_at [] codes place text d are at = cc
known_at (x ∷ texts) [] place text d are at = absurd are
known_at (x ∷ texts) (y ∷ codes) zero text d are at =
    let same : x ≡ text = cc in
    subst (λ (t : List ℕ). IsCodesText t y) same are.0
known_at (x ∷ texts) (y ∷ codes) (suc place) text d are at =
    known_at texts codes place text d are.1 at
