-- The names, and the texts that are refused whole, are written as lexical masks are; and each front
-- of a text of a lexical mask begins one that is none of them.
use Rattle.std.proofs.Common.{◌≡◌, ℕ, List, [], ◌∷◌, ◌++◌, Bool, true, false, refl, sym, ◌∙◌, ap, subst, append_assoc, append-nil}
use Rattle.std.specs.Prelude.{◌==◌, ◌||◌, Contains, codes}
use Rattle.std.specs.List.{flat_map}
use Rattle.std.proofs.lemmas.Bool.{both_ways, and_parts, or_right, or_from, ne_eqb, false_from_ne_true}
use Rattle.std.proofs.lemmas.List.Elements.{All-nil, All-cons, All-push, All-contains}
use Rattle.ux_dela.specs.Signs.{BACKSLASH}
use Rattle.ux_dela.specs.Written.{Written, bare, written, IsPart, is_end, all_behind}
use Rattle.ux_dela.proofs.CharactersLemmas.{written-append}
use Rattle.ux_masks.specs.declared.mask.Mask.{Mask}
use Rattle.ux_masks.specs.declared.mask.Mask.TheVariants.{Lexical, NotLexical}
use Rattle.ux_masks.specs.Signs.{COLON, EXCLAMATION, is_sign, is_code_character}
use Rattle.ux_masks.specs.Pieces.{are_code_bare, is_code_name}
use Rattle.ux_masks.specs.Texts.{IsName, name_of, a_code, target_text, asked_text, Body, IsBody, body_text, parts_of, Names, word, mot, lower, min, upper, maj, first, pre, dic, sdic, not_word, not_mot, not_lower, not_min, not_upper, not_maj, not_first, not_pre, not_dic, not_sdic, cdic, tdic, nb, token, refused_texts, IsLexicalText, plain, negated, IsMaskText, lexical, BeginsMask}
use Rattle.ux_masks.specs.Reading.{BeginsLexical}
use Rattle.ux_masks.proofs.CodeNameLemmas.{code_name_back}
use Rattle.ux_masks.proofs.EndLemmas.{sign_has}

-- bytes, each of them bare
abbrev bares : List ℕ → List Written
bares [] = []
bares (b ∷ text) = bare b ∷ bares text

written-bares : (text : List ℕ) → written (bares text) ≡ text
written-bares [] = refl
written-bares (b ∷ text) = ap (λ t. b ∷ t) (written-bares text)

code_no_sign : (b : ℕ) → is_code_character b ≡ true → is_end is_sign b ≡ false
code_no_sign b is =
    let other : (b == BACKSLASH) ≡ false =
    ne_eqb b BACKSLASH (λ e. both_ways (is_code_character b) (ap is_code_character e) is) in
    let no_sign : is_sign b ≡ false =
    false_from_ne_true (is_sign b)
    (λ sign. both_ways (is_code_character b)
    (sign_has (λ x. is_code_character x ≡ false) refl refl refl refl refl refl refl refl b sign) is) in
    or_from (b == BACKSLASH) (is_sign b) other no_sign

code_part : (text : List ℕ) → are_code_bare (bares text) ≡ true → IsPart is_sign (bares text)
code_part [] are = tt
code_part (b ∷ text) are =
    let both = and_parts (is_code_character b) (are_code_bare (bares text)) are in
    (code_no_sign b both.0, code_part text both.1)

abbrev code_body : List ℕ → Body
code_body text = record { target = a_code (bares text); asked = []; alternatives = [] }

code_is : (text : List ℕ) → are_code_bare (bares text) ≡ true → is_code_name (bares text) ≡ true →
    IsBody (code_body text)
code_is [] are is = absurd (let e : false ≡ true = is in cc)
code_is (b ∷ text) are is = record {
  target = (
    record { some = λ e. cc; part = code_part (b ∷ text) are },
    code_name_back (bares (b ∷ text)) is,
  );
  asked = All-nil (λ code. IsName (name_of code));
  alternatives = All-nil IsName;
}

code_written : (text : List ℕ) → text ≡ written (body_text (code_body text))
code_written text =
    sym (ap written (append-nil (bares text)) ∙ written-bares text)

-- a code alone is written as a lexical mask
code_text : (text : List ℕ) → are_code_bare (bares text) ≡ true →
    is_code_name (bares text) ≡ true → (mask : Mask) × IsLexicalText text mask
code_text text are is = (
  Lexical (parts_of (code_body text)),
  plain (code_body text) (code_is text are is) (code_written text),
)

not_code_text : (text : List ℕ) → are_code_bare (bares text) ≡ true →
    is_code_name (bares text) ≡ true → (mask : Mask) × IsLexicalText (EXCLAMATION ∷ text) mask
not_code_text text are is = (
  NotLexical (parts_of (code_body text)),
  negated (code_body text) (code_is text are is) (ap (λ t. EXCLAMATION ∷ t) (code_written text)),
)

-- so are the names
pub name_written : (text : List ℕ) (mask : Mask) → Names text mask →
    (other : Mask) × IsLexicalText text other
name_written text mask word = code_text (codes "WORD") refl refl
name_written text mask mot = code_text (codes "MOT") refl refl
name_written text mask lower = code_text (codes "LOWER") refl refl
name_written text mask min = code_text (codes "MIN") refl refl
name_written text mask upper = code_text (codes "UPPER") refl refl
name_written text mask maj = code_text (codes "MAJ") refl refl
name_written text mask first = code_text (codes "FIRST") refl refl
name_written text mask pre = code_text (codes "PRE") refl refl
name_written text mask dic = code_text (codes "DIC") refl refl
name_written text mask sdic = code_text (codes "SDIC") refl refl
name_written text mask not_word = not_code_text (codes "WORD") refl refl
name_written text mask not_mot = not_code_text (codes "MOT") refl refl
name_written text mask not_lower = not_code_text (codes "LOWER") refl refl
name_written text mask not_min = not_code_text (codes "MIN") refl refl
name_written text mask not_upper = not_code_text (codes "UPPER") refl refl
name_written text mask not_maj = not_code_text (codes "MAJ") refl refl
name_written text mask not_first = not_code_text (codes "FIRST") refl refl
name_written text mask not_pre = not_code_text (codes "PRE") refl refl
name_written text mask not_dic = not_code_text (codes "DIC") refl refl
name_written text mask not_sdic = not_code_text (codes "SDIC") refl refl
name_written text mask cdic = code_text (codes "CDIC") refl refl
name_written text mask tdic = code_text (codes "TDIC") refl refl
name_written text mask nb = code_text (codes "NB") refl refl
name_written text mask token = code_text (codes "TOKEN") refl refl

abbrev IsWritten : List ℕ → Type 0
IsWritten text = (mask : Mask) × IsLexicalText text mask

-- and the texts that are refused whole
pub refused_written : (text : List ℕ) → Contains refused_texts text → IsWritten text
refused_written text among =
    All-contains IsWritten refused_texts text
    (All-cons IsWritten (codes "E") (codes "!E" ∷ codes "!CDIC" ∷ codes "!TDIC" ∷ codes "!NB" ∷ codes "!TOKEN" ∷ []) (code_text (codes "E") refl refl)
    (All-cons IsWritten (codes "!E") (codes "!CDIC" ∷ codes "!TDIC" ∷ codes "!NB" ∷ codes "!TOKEN" ∷ []) (not_code_text (codes "E") refl refl)
    (All-cons IsWritten (codes "!CDIC") (codes "!TDIC" ∷ codes "!NB" ∷ codes "!TOKEN" ∷ []) (not_code_text (codes "CDIC") refl refl)
    (All-cons IsWritten (codes "!TDIC") (codes "!NB" ∷ codes "!TOKEN" ∷ []) (not_code_text (codes "TDIC") refl refl)
    (All-cons IsWritten (codes "!NB") (codes "!TOKEN" ∷ []) (not_code_text (codes "NB") refl refl)
    (All-cons IsWritten (codes "!TOKEN") [] (not_code_text (codes "TOKEN") refl refl)
    (All-nil IsWritten))))))) among

-- none of them has a colon
abbrev has_colon : List ℕ → Bool
has_colon [] = false
has_colon (b ∷ text) = b == COLON || has_colon text

name_no_colon : (text : List ℕ) (mask : Mask) → Names text mask → has_colon text ≡ false
name_no_colon text mask word = refl
name_no_colon text mask mot = refl
name_no_colon text mask lower = refl
name_no_colon text mask min = refl
name_no_colon text mask upper = refl
name_no_colon text mask maj = refl
name_no_colon text mask first = refl
name_no_colon text mask pre = refl
name_no_colon text mask dic = refl
name_no_colon text mask sdic = refl
name_no_colon text mask not_word = refl
name_no_colon text mask not_mot = refl
name_no_colon text mask not_lower = refl
name_no_colon text mask not_min = refl
name_no_colon text mask not_upper = refl
name_no_colon text mask not_maj = refl
name_no_colon text mask not_first = refl
name_no_colon text mask not_pre = refl
name_no_colon text mask not_dic = refl
name_no_colon text mask not_sdic = refl
name_no_colon text mask cdic = refl
name_no_colon text mask tdic = refl
name_no_colon text mask nb = refl
name_no_colon text mask token = refl

abbrev HasNoColon : List ℕ → Type 0
HasNoColon text = has_colon text ≡ false

refused_no_colon : (text : List ℕ) → Contains refused_texts text → HasNoColon text
refused_no_colon text among =
    All-contains HasNoColon refused_texts text
    (All-cons HasNoColon (codes "E") (codes "!E" ∷ codes "!CDIC" ∷ codes "!TDIC" ∷ codes "!NB" ∷ codes "!TOKEN" ∷ []) refl
    (All-cons HasNoColon (codes "!E") (codes "!CDIC" ∷ codes "!TDIC" ∷ codes "!NB" ∷ codes "!TOKEN" ∷ []) refl
    (All-cons HasNoColon (codes "!CDIC") (codes "!TDIC" ∷ codes "!NB" ∷ codes "!TOKEN" ∷ []) refl
    (All-cons HasNoColon (codes "!TDIC") (codes "!NB" ∷ codes "!TOKEN" ∷ []) refl
    (All-cons HasNoColon (codes "!NB") (codes "!TOKEN" ∷ []) refl
    (All-cons HasNoColon (codes "!TOKEN") [] refl
    (All-nil HasNoColon))))))) among

colon_there : (text rest : List ℕ) → has_colon (text ++ COLON ∷ rest) ≡ true
colon_there [] rest = refl
colon_there (b ∷ text) rest = or_right (b == COLON) (has_colon (text ++ COLON ∷ rest)) (colon_there text rest)

-- an alternative more
abbrev more_alternatives : Body → Body
more_alternatives body = record {
  target = body.target;
  asked = body.asked;
  alternatives = body.alternatives ++ (bare 120 ∷ []) ∷ [];
}

more_is : (body : Body) → IsBody body → IsBody (more_alternatives body)
more_is body is = record {
  target = is.target;
  asked = is.asked;
  alternatives = All-push IsName body.alternatives (bare 120 ∷ []) is.alternatives
      (record { some = λ e. cc; part = (refl, tt) });
}

all_behind-push : (names : List (List Written)) →
    all_behind COLON (names ++ (bare 120 ∷ []) ∷ [])
    ≡ all_behind COLON names ++ bare COLON ∷ (bare 120 ∷ [])
all_behind-push [] = refl
all_behind-push (name ∷ names) =
    ap (λ t. bare COLON ∷ (name ++ t)) (all_behind-push names)
    ∙ ap (λ t. bare COLON ∷ t)
    (sym (append_assoc name (all_behind COLON names) (bare COLON ∷ (bare 120 ∷ []))))

more_text : (body : Body) →
    written (body_text (more_alternatives body)) ≡ written (body_text body) ++ COLON ∷ (120 ∷ [])
more_text body =
    let end = bare COLON ∷ (bare 120 ∷ []) in
    let asked = flat_map asked_text body.asked in
    let behind = all_behind COLON body.alternatives in
    ap (λ t. written (target_text body.target ++ (asked ++ t))) (all_behind-push body.alternatives)
    ∙ ap (λ t. written (target_text body.target ++ t)) (sym (append_assoc asked behind end))
    ∙ ap written (sym (append_assoc (target_text body.target) (asked ++ behind) end))
    ∙ written-append (body_text body) end

more_lexical : (text : List ℕ) (mask : Mask) → IsLexicalText text mask →
    (other : Mask) × IsLexicalText (text ++ COLON ∷ (120 ∷ [])) other
more_lexical text mask (plain body is e) = (
  Lexical (parts_of (more_alternatives body)),
  plain (more_alternatives body) (more_is body is)
      (ap (λ t. t ++ COLON ∷ (120 ∷ [])) e ∙ sym (more_text body)),
)
more_lexical text mask (negated body is e) = (
  NotLexical (parts_of (more_alternatives body)),
  negated (more_alternatives body) (more_is body is)
      (ap (λ t. t ++ COLON ∷ (120 ∷ [])) e
      ∙ ap (λ t. EXCLAMATION ∷ t) (sym (more_text body))),
)

-- what begins a text of a lexical mask begins a mask text
pub begins_mask : (front : List ℕ) → BeginsLexical front → BeginsMask front
begins_mask front begun =
    let rest = begun.0 in
    let end = COLON ∷ (120 ∷ []) in
    let whole = (front ++ rest) ++ end in
    let more = more_lexical (front ++ rest) begun.1 begun.2 in
    let colon = colon_there (front ++ rest) (120 ∷ []) in
    let mask : IsMaskText whole more.0 =
    lexical (λ n. both_ways (has_colon whole) (name_no_colon whole n.0 n.1) colon)
    (λ r. both_ways (has_colon whole) (refused_no_colon whole r) colon) more.1 in (
      rest ++ end,
      more.0,
      subst (λ (t : List ℕ). IsMaskText t more.0) (append_assoc front rest end) mask,
    )
