-- What is printed reads back: each sign that would end a part stands behind a backslash.
use Rattle.std.proofs.Common.{◌≡◌, ◌≢◌, ℕ, List, [], ◌∷◌, ◌++◌, Bool, true, false, refl, sym, ◌∙◌, ap, subst}
use Rattle.std.specs.Prelude.{◌==◌, ◌||◌}
use Rattle.std.specs.List.{list_any}
use Rattle.std.proofs.lemmas.Bool.{or_parts, or_from, cond_both, eqb-true}
use Rattle.ux_dela.specs.Signs.{BACKSLASH, PLUS, COLON, EQUALS, is_comma, is_dot, is_slash, is_plus, is_colon, is_code_sign, is_equals, is_form_sign, is_printed_code_sign}
use Rattle.ux_dela.specs.Written.{Written, written, IsPart, is_end, byte_as, meant, all_meant, all_behind}
use Rattle.ux_dela.specs.Codes.{IsCode, AreCodes, IsCodeList}
use Rattle.ux_dela.specs.Sound.{is_feed, HasNoFeed, IsSoundText, AreSoundTexts, AreSoundCodes}
use Rattle.ux_dela.specs.Printed.{shield, shielded, all_shielded, shielded_codes, printed_list}
use Rattle.ux_dela.proofs.CharactersLemmas.{written-append, IsPart-append}
use Rattle.ux_dela.proofs.SoundLemmas.{no_feed-append}

pub shield_part : (stops : ℕ → Bool) (t : Bool) (b : ℕ) (w : List Written) →
    (t ≡ false → is_end stops b ≡ false) → IsPart stops w → IsPart stops (shield t b ∷ w)
shield_part stops true b w other p = p
shield_part stops false b w other p = (other refl, p)

-- a text with its backslashes is a part
pub shielded_part : (stops signs : ℕ → Bool) →
    ((b : ℕ) → signs b ≡ false → is_end stops b ≡ false) → (text : List ℕ) →
    IsPart stops (shielded signs text)
shielded_part stops signs fewer [] = tt
shielded_part stops signs fewer (b ∷ text) =
    shield_part stops (signs b) b (shielded signs text) (fewer b)
    (shielded_part stops signs fewer text)

byte_same : (b : ℕ) → byte_as EQUALS b ≡ b
byte_same b =
    cond_both (is_equals b) EQUALS b (λ x. x ≡ b) (λ e. sym (eqb-true b EQUALS e)) (λ e. refl)

pub shield_meant : (t : Bool) (b : ℕ) (w : List Written) → meant (shield t b ∷ w) ≡ b ∷ meant w
shield_meant true b w = refl
shield_meant false b w = ap (λ x. x ∷ meant w) (byte_same b)

-- and means that text
pub shielded_meant : (signs : ℕ → Bool) (text : List ℕ) → meant (shielded signs text) ≡ text
shielded_meant signs [] = refl
shielded_meant signs (b ∷ text) =
    shield_meant (signs b) b (shielded signs text) ∙ ap (λ t. b ∷ t) (shielded_meant signs text)

pub shielded_some : (signs : ℕ → Bool) (text : List ℕ) → text ≢ [] → shielded signs text ≢ []
shielded_some signs text some none =
    some (sym (shielded_meant signs text) ∙ ap meant none)

pub all_shielded_meant : (signs : ℕ → Bool) (texts : List (List ℕ)) →
    all_meant (all_shielded signs texts) ≡ texts
all_shielded_meant signs [] = refl
all_shielded_meant signs (text ∷ texts) =
    ap (λ t. t ∷ all_meant (all_shielded signs texts)) (shielded_meant signs text)
    ∙ ap (λ t. text ∷ t) (all_shielded_meant signs texts)

-- which signs are protected
code_other : (b : ℕ) → is_printed_code_sign b ≡ false → is_end is_code_sign b ≡ false
code_other b e =
    let a = or_parts (is_code_sign b || is_slash b) (b == BACKSLASH) e in
    or_from (b == BACKSLASH) (is_code_sign b) a.1 (or_parts (is_code_sign b) (is_slash b) a.0).0

pub slash_other : (b : ℕ) → is_printed_code_sign b ≡ false → is_end is_slash b ≡ false
slash_other b e =
    let a = or_parts (is_code_sign b || is_slash b) (b == BACKSLASH) e in
    or_from (b == BACKSLASH) (is_slash b) a.1 (or_parts (is_code_sign b) (is_slash b) a.0).1

colon_other : (b : ℕ) → is_printed_code_sign b ≡ false → is_end is_colon b ≡ false
colon_other b e =
    let a = or_parts (is_code_sign b || is_slash b) (b == BACKSLASH) e in
    let d = or_parts (is_code_sign b) (is_slash b) a.0 in
    or_from (b == BACKSLASH) (is_colon b) a.1 (or_parts (is_plus b) (is_colon b) d.0).1

pub comma_other : (b : ℕ) → is_form_sign b ≡ false → is_end is_comma b ≡ false
comma_other b e =
    let a = or_parts (is_comma b || is_dot b || is_equals b) (b == BACKSLASH) e in
    let d = or_parts (is_comma b || is_dot b) (is_equals b) a.0 in
    or_from (b == BACKSLASH) (is_comma b) a.1 (or_parts (is_comma b) (is_dot b) d.0).0

pub dot_other : (b : ℕ) → is_form_sign b ≡ false → is_end is_dot b ≡ false
dot_other b e =
    let a = or_parts (is_comma b || is_dot b || is_equals b) (b == BACKSLASH) e in
    let d = or_parts (is_comma b || is_dot b) (is_equals b) a.0 in
    or_from (b == BACKSLASH) (is_dot b) a.1 (or_parts (is_comma b) (is_dot b) d.0).1

pub equals_other : (b : ℕ) → is_form_sign b ≡ false → is_end is_equals b ≡ false
equals_other b e =
    let a = or_parts (is_comma b || is_dot b || is_equals b) (b == BACKSLASH) e in
    let d = or_parts (is_comma b || is_dot b) (is_equals b) a.0 in
    or_from (b == BACKSLASH) (is_equals b) a.1 d.1

-- a sound text makes a code
sound_code : (stops : ℕ → Bool) →
    ((b : ℕ) → is_printed_code_sign b ≡ false → is_end stops b ≡ false) → (text : List ℕ) →
    IsSoundText text → IsCode stops (shielded is_printed_code_sign text)
sound_code stops fewer text is = record {
  some = shielded_some is_printed_code_sign text is.some;
  part = shielded_part stops is_printed_code_sign fewer text;
}

sound_all : (stops : ℕ → Bool) →
    ((b : ℕ) → is_printed_code_sign b ≡ false → is_end stops b ≡ false) →
    (texts : List (List ℕ)) → AreSoundTexts texts →
    AreCodes stops (all_shielded is_printed_code_sign texts)
sound_all stops fewer [] are = tt
sound_all stops fewer (text ∷ texts) are =
    (sound_code stops fewer text are.0, sound_all stops fewer texts are.1)

-- the printed codes are a list of codes
pub printed_are_list : (gram : List ℕ) (sem infl : List (List ℕ)) → AreSoundCodes gram sem infl →
    IsCodeList (shielded_codes gram sem infl) (shielded is_printed_code_sign gram)
    (all_shielded is_printed_code_sign sem) (all_shielded is_printed_code_sign infl)
printed_are_list gram sem infl are = record {
  whole = refl;
  is_gram = sound_code is_code_sign code_other gram are.sound_gram;
  are_sem = sound_all is_code_sign code_other sem are.sound_sem;
  are_infl = sound_all is_colon colon_other infl are.sound_infl;
}

all_part : (sign : ℕ) (texts : List (List ℕ)) → is_end is_slash sign ≡ false →
    IsPart is_slash (all_behind sign (all_shielded is_printed_code_sign texts))
all_part sign [] other = tt
all_part sign (text ∷ texts) other = (
  other,
  IsPart-append is_slash (shielded is_printed_code_sign text)
      (all_behind sign (all_shielded is_printed_code_sign texts))
      (shielded_part is_slash is_printed_code_sign slash_other text) (all_part sign texts other),
)

-- and have no bare slash
pub printed_part : (gram : List ℕ) (sem infl : List (List ℕ)) →
    IsPart is_slash (shielded_codes gram sem infl)
printed_part gram sem infl =
    let v = all_behind PLUS (all_shielded is_printed_code_sign sem) in
    let w = all_behind COLON (all_shielded is_printed_code_sign infl) in
    IsPart-append is_slash (shielded is_printed_code_sign gram) (v ++ w)
    (shielded_part is_slash is_printed_code_sign slash_other gram)
    (IsPart-append is_slash v w (all_part PLUS sem refl) (all_part COLON infl refl))

pub shield_no_feed : (t : Bool) (b : ℕ) (w : List Written) → is_feed b ≡ false →
    HasNoFeed (written w) → HasNoFeed (written (shield t b ∷ w))
shield_no_feed true b w other p = or_from (is_feed b) (list_any is_feed (written w)) other p
shield_no_feed false b w other p = or_from (is_feed b) (list_any is_feed (written w)) other p

-- a text without a line feed is printed without one
pub shielded_no_feed : (signs : ℕ → Bool) (text : List ℕ) → HasNoFeed text →
    HasNoFeed (written (shielded signs text))
shielded_no_feed signs [] p = refl
shielded_no_feed signs (b ∷ text) p =
    let parts = or_parts (is_feed b) (list_any is_feed text) p in
    shield_no_feed (signs b) b (shielded signs text) parts.0
    (shielded_no_feed signs text parts.1)

pub written_no_feed : (v w : List Written) → HasNoFeed (written v) → HasNoFeed (written w) →
    HasNoFeed (written (v ++ w))
written_no_feed v w p q =
    subst (λ (t : List ℕ). HasNoFeed t) (sym (written-append v w))
    (no_feed-append (written v) (written w) p q)

all_no_feed : (sign : ℕ) (texts : List (List ℕ)) → is_feed sign ≡ false → AreSoundTexts texts →
    HasNoFeed (written (all_behind sign (all_shielded is_printed_code_sign texts)))
all_no_feed sign [] other are = refl
all_no_feed sign (text ∷ texts) other are =
    let rest = all_behind sign (all_shielded is_printed_code_sign texts) in
    let code = shielded is_printed_code_sign text in
    or_from (is_feed sign) (list_any is_feed (written (code ++ rest))) other
    (written_no_feed code rest (shielded_no_feed is_printed_code_sign text are.0.no_feed)
    (all_no_feed sign texts other are.1))

-- sound codes are printed without a line feed
pub printed_no_feed : (gram : List ℕ) (sem infl : List (List ℕ)) → AreSoundCodes gram sem infl →
    HasNoFeed (printed_list gram sem infl)
printed_no_feed gram sem infl are =
    let v = all_behind PLUS (all_shielded is_printed_code_sign sem) in
    let w = all_behind COLON (all_shielded is_printed_code_sign infl) in
    written_no_feed (shielded is_printed_code_sign gram) (v ++ w)
    (shielded_no_feed is_printed_code_sign gram are.sound_gram.no_feed)
    (written_no_feed v w (all_no_feed PLUS sem refl are.sound_sem)
    (all_no_feed COLON infl refl are.sound_infl))
