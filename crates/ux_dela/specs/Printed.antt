-- How an entry is printed as a line. Public: the crate's public contracts speak of it.
use Rattle.std.specs.Prelude.{◌≡◌, ℕ, ◌==◌, Bool, true, false, List, [], ◌∷◌, ◌++◌, if◌then◌else◌}
use Rattle.std.specs.Str.{bytes_eq}
use Rattle.ux_base.specs.Lines.{ends_in_return}
use Rattle.ux_dela.specs.Signs.{COMMA, DOT, SLASH, PLUS, COLON, is_form_sign, is_printed_code_sign}
use Rattle.ux_dela.specs.Written.{Written, bare, protected, written, all_behind}
use Rattle.ux_dela.specs.Sound.{IsSound, AreSoundCodes}
use Rattle.ux_dela.specs.declared.entry.Entry.{Entry}
use Rattle.ux_dela.specs.declared.entry.Codes.{Codes}

-- a byte, behind a backslash where it is such a sign
abbrev pub shield : Bool → ℕ → Written
shield true b = protected b
shield false b = bare b

-- the text with a backslash before each such sign
abbrev pub shielded : (ℕ → Bool) → List ℕ → List Written
shielded signs [] = []
shielded signs (b ∷ text) = shield (signs b) b ∷ shielded signs text

-- each text with such backslashes
abbrev pub all_shielded : (ℕ → Bool) → List (List ℕ) → List (List Written)
all_shielded signs [] = []
all_shielded signs (text ∷ texts) = shielded signs text ∷ all_shielded signs texts

-- the form with its backslashes; a `/` that begins it gets one too
abbrev pub shielded_form : List ℕ → List Written
shielded_form [] = []
shielded_form (b ∷ form) =
    (if b == SLASH then protected b else shield (is_form_sign b) b) ∷ shielded is_form_sign form

-- the lemma with its backslashes, or nothing where it is the form
abbrev pub shielded_lemma : (form lemma : List ℕ) → List Written
shielded_lemma form lemma = if bytes_eq lemma form then [] else shielded is_form_sign lemma

-- the codes with their backslashes and signs
abbrev pub shielded_codes : (gram : List ℕ) (sem infl : List (List ℕ)) → List Written
shielded_codes gram sem infl =
    shielded is_printed_code_sign gram
    ++ (all_behind PLUS (all_shielded is_printed_code_sign sem)
    ++ all_behind COLON (all_shielded is_printed_code_sign infl))

-- the codes as they are printed
abbrev pub printed_list : (gram : List ℕ) (sem infl : List (List ℕ)) → List ℕ
printed_list gram sem infl = written (shielded_codes gram sem infl)

-- the codes of an entry as they are printed
abbrev pub printed_codes : Entry → List ℕ
printed_codes entry = printed_list entry.gram entry.sem entry.infl

-- the entry as a line
abbrev pub printed : Entry → List ℕ
printed entry =
    written (shielded_form entry.form) ++ (COMMA ∷ (written (shielded_lemma entry.form entry.lemma)
    ++ (DOT ∷ printed_codes entry)))

-- a line reads back as the entry that it was printed from
pub record IsPrintable (entry : Entry) : Type 0 where
  pub sound : IsSound entry
  pub no_return : ends_in_return (printed entry) ≡ false

-- the text is what is printed for these codes
pub record IsCodesText (text : List ℕ) (codes : Codes) : Type 0 where
  pub printed : text ≡ printed_list codes.gram codes.sem codes.infl
  pub sound : AreSoundCodes codes.gram codes.sem codes.infl
