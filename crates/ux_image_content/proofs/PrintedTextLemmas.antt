-- Codes whose texts are UTF-8 are printed as UTF-8: a backslash stands before ASCII signs alone, and
-- no byte of a longer character is one.
use Rattle.std.proofs.Common.{arith, ◌≡◌, ℕ, ◌<◌, ◌≤◌, List, [], ◌∷◌, ◌++◌, Bool, true, false, inl, inr, refl, sym, ◌∙◌, ap, subst, length, get_or}
use Rattle.std.specs.Prelude.{All, encode_utf8, ◌==◌, ◌||◌}
use Rattle.std.specs.Str.{IsUtf8, all_scalars, encode_utf8_all}
use Rattle.std.proofs.lemmas.Bool.{and_parts, cases_lt, or_cases}
use Rattle.std.proofs.lemmas.Bool.Decides.{Decides-eqb}
use Rattle.std.proofs.lemmas.List.{append-nil}
use Rattle.std.proofs.lemmas.List.Elements.{All-from_get_or, All-head, All-tail}
use Rattle.std.proofs.lemmas.Str.{IsUtf8-append, IsUtf8-encode, IsUtf8-nil, encode_ascii, inside_one}
use Rattle.ux_dela.specs.Printed.{all_shielded, printed_list, shield, shielded}
use Rattle.ux_dela.specs.Signs.{BACKSLASH, COLON, PLUS, SLASH, is_code_sign, is_colon, is_plus, is_printed_code_sign, is_slash}
use Rattle.ux_dela.specs.Written.{all_behind, written, Written}
use Rattle.ux_dela.proofs.CharactersLemmas.{written-append}

shielded-append : (signs : ℕ → Bool) (x y : List ℕ) →
    shielded signs (x ++ y) ≡ shielded signs x ++ shielded signs y
shielded-append signs [] y = refl
shielded-append signs (b ∷ x) y =
    ap (λ (l : List Written). shield (signs b) b ∷ l) (shielded-append signs x y)

-- text without such a sign is written as it is
none_shielded : (signs : ℕ → Bool) (text : List ℕ) → All (λ b. signs b ≡ false) text →
    written (shielded signs text) ≡ text
none_shielded signs [] none = refl
none_shielded signs (b ∷ text) none =
    ap (λ t. written (shield t b ∷ shielded signs text))
    (All-head (λ x. signs x ≡ false) b text none)
    ∙ ap (λ (l : List ℕ). b ∷ l)
    (none_shielded signs text (All-tail (λ x. signs x ≡ false) b text none))

module _ (signs : ℕ → Bool) (ascii : (b : ℕ) → signs b ≡ true → b < 128) where
  -- no byte of a longer character is a sign
  none_inside : (c : ℕ) → 128 ≤ c → All (λ b. signs b ≡ false) (encode_utf8 c)
  none_inside c high =
      All-from_get_or (λ b. signs b ≡ false) (encode_utf8 c) 0 (λ k low.
      by k low (signs (get_or (encode_utf8 c) k 0)) refl)
    where
      by : (k : ℕ) → k < length (encode_utf8 c) → (t : Bool) →
          signs (get_or (encode_utf8 c) k 0) ≡ t → signs (get_or (encode_utf8 c) k 0) ≡ false
      by k low true is =
          let under = ascii (get_or (encode_utf8 c) k 0) is in
          let same = inside_one c [] (encode_utf8 c) k (sym (append-nil (encode_utf8 c))) low under
          in
          absurd (omega (arith, high, same, under))
      by k low false is = is

  -- a character of one byte may get a backslash
  short_utf8 : (t : Bool) (c : ℕ) → IsUtf8 (c ∷ []) → IsUtf8 (written (shield t c ∷ []))
  short_utf8 true c utf8 =
      IsUtf8-append (BACKSLASH ∷ []) (c ∷ [])
      (subst IsUtf8 (encode_ascii BACKSLASH (omega arith)) (IsUtf8-encode BACKSLASH refl)) utf8
  short_utf8 false c utf8 = utf8

  characters_utf8 : (cs : List ℕ) → all_scalars cs ≡ true →
      IsUtf8 (written (shielded signs (encode_utf8_all cs)))
  characters_utf8 [] all = IsUtf8-nil
  characters_utf8 (c ∷ cs) all =
      let parts = and_parts _ (all_scalars cs) all in
      let rest = encode_utf8_all cs in
      let utf8 = IsUtf8-encode c parts.0 in
      let here : IsUtf8 (written (shielded signs (encode_utf8 c))) = elim (cases_lt c 128) [
        | inl low ↦
            let alone = encode_ascii c low in
            subst (λ (l : List ℕ). IsUtf8 (written (shielded signs l))) (sym alone)
            (short_utf8 (signs c) c (subst IsUtf8 alone utf8))
        | inr high ↦
            subst IsUtf8 (sym (none_shielded signs (encode_utf8 c) (none_inside c high))) utf8
      ] in
      subst IsUtf8 (sym (ap written (shielded-append signs (encode_utf8 c) rest)
      ∙ written-append (shielded signs (encode_utf8 c)) (shielded signs rest)))
      (IsUtf8-append (written (shielded signs (encode_utf8 c))) (written (shielded signs rest)) here
      (characters_utf8 cs parts.1))

  shielded_utf8 : (text : List ℕ) → IsUtf8 text → IsUtf8 (written (shielded signs text))
  shielded_utf8 text utf8 =
      subst (λ (t : List ℕ). IsUtf8 (written (shielded signs t))) utf8.1.1
      (characters_utf8 utf8.0 utf8.1.0)

  behind_utf8 : (sign : ℕ) → IsUtf8 (sign ∷ []) → (texts : List (List ℕ)) → All IsUtf8 texts →
      IsUtf8 (written (all_behind sign (all_shielded signs texts)))
  behind_utf8 sign alone [] all = IsUtf8-nil
  behind_utf8 sign alone (text ∷ texts) all =
      let part = shielded signs text in
      let later = all_behind sign (all_shielded signs texts) in
      IsUtf8-append (sign ∷ []) (written (part ++ later)) alone
      (subst IsUtf8 (sym (written-append part later))
      (IsUtf8-append (written part) (written later)
      (shielded_utf8 text (All-head IsUtf8 text texts all))
      (behind_utf8 sign alone texts (All-tail IsUtf8 text texts all))))

-- the signs that are protected are ASCII
sign_ascii : (b : ℕ) → is_printed_code_sign b ≡ true → b < 128
sign_ascii b is = elim (or_cases (is_code_sign b || is_slash b) (b == BACKSLASH) is) [
  | inl other ↦ elim (or_cases (is_code_sign b) (is_slash b) other) [
    | inl code ↦ elim (or_cases (is_plus b) (is_colon b) code) [
      | inl plus ↦ let at = (Decides-eqb b PLUS).0 plus in omega (arith, at)
      | inr colon ↦ let at = (Decides-eqb b COLON).0 colon in omega (arith, at)
    ]
    | inr slash ↦ let at = (Decides-eqb b SLASH).0 slash in omega (arith, at)
  ]
  | inr back ↦ let at = (Decides-eqb b BACKSLASH).0 back in omega (arith, at)
]

-- so codes are printed as text
pub printed_utf8 : (gram : List ℕ) (sem infl : List (List ℕ)) → IsUtf8 gram → All IsUtf8 sem →
    All IsUtf8 infl → IsUtf8 (printed_list gram sem infl)
printed_utf8 gram sem infl gram_is sem_are infl_are =
    let signs = is_printed_code_sign in
    let first = shielded signs gram in
    let second = all_behind PLUS (all_shielded signs sem) in
    let third = all_behind COLON (all_shielded signs infl) in
    let plus = subst IsUtf8 (encode_ascii PLUS (omega arith)) (IsUtf8-encode PLUS refl) in
    let colon = subst IsUtf8 (encode_ascii COLON (omega arith)) (IsUtf8-encode COLON refl) in
    subst IsUtf8 (sym (written-append first (second ++ third)
    ∙ ap (λ (l : List ℕ). written first ++ l) (written-append second third)))
    (IsUtf8-append (written first) (written second ++ written third)
    (shielded_utf8 signs sign_ascii gram gram_is)
    (IsUtf8-append (written second) (written third)
    (behind_utf8 signs sign_ascii PLUS plus sem sem_are)
    (behind_utf8 signs sign_ascii COLON colon infl infl_are)))
