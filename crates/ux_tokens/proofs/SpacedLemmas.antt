-- A text with single spaces is UTF-8 where the text is, since separators are ASCII.
use Rattle.std.proofs.Common.{◌≡◌, ℕ, ◌<◌, suc, Bool, ◌&&◌, true, false, List, [], ◌∷◌, ◌++◌, length, get_or, encode_utf8, refl, sym, ap, subst, arith}
use Rattle.std.specs.Str.{IsUtf8, encode_utf8_all}
use Rattle.std.proofs.Math.Utf8.{scalar, scalars}
use Rattle.std.proofs.lemmas.Str.{IsUtf8-append, IsUtf8-nil, encode_ascii, inside_one}
use Rattle.std.proofs.lemmas.List.{append-nil}
use Rattle.ux_alphabet.specs.Letters.{is_separator}
use Rattle.ux_tokens.specs.Tokens.{with_single_spaces, begins_with_separator, SPACE}
use Rattle.ux_tokens.proofs.SpacesLemmas.{separator_is_ascii}

-- bytes that are no separators stay
others_stay : (bytes rest : List ℕ) →
    ((k : ℕ) → k < length bytes → is_separator (get_or bytes k 0) ≡ false) →
    with_single_spaces (bytes ++ rest) ≡ bytes ++ with_single_spaces rest
others_stay [] rest others = refl
others_stay (b ∷ bytes) rest others =
    rw (others 0 (omega arith)) (ap (λ (l : List ℕ). b ∷ l)
    (others_stay bytes rest (λ k below. others (suc k) (omega (arith, below)))))

-- no byte of another character is a separator
no_separator : (c k : ℕ) → is_separator c ≡ false → k < length (encode_utf8 c) →
    is_separator (get_or (encode_utf8 c) k 0) ≡ false
no_separator c k other below =
    let byte = get_or (encode_utf8 c) k 0 in
    elim (is_separator byte) as (λ white. is_separator byte ≡ white → is_separator byte ≡ false) [
      | false ↦ λ is. is
      | true ↦ λ is. (
          let same = inside_one c [] (encode_utf8 c) k (sym (append-nil _)) below
          (separator_is_ascii byte is) in
          subst (λ (b : ℕ). is_separator b ≡ false) same other)
    ] refl

both_true : (a b : Bool) → (a && b) ≡ true → (a ≡ true) × (b ≡ true)
both_true true b both = (refl, both)
both_true false b both = cc

one_utf8 : (c : ℕ) → scalar c ≡ true → IsUtf8 (encode_utf8 c)
one_utf8 c valid = (c ∷ [], (rw valid refl, append-nil (encode_utf8 c)))

space_utf8 : IsUtf8 (SPACE ∷ [])
space_utf8 = subst IsUtf8 (encode_ascii SPACE (omega arith)) (one_utf8 SPACE refl)

-- a separator gives a space, or nothing where another one follows
separator_utf8 : (c : ℕ) (rest : List ℕ) → is_separator c ≡ true →
    IsUtf8 (with_single_spaces rest) → IsUtf8 (with_single_spaces (c ∷ rest))
separator_utf8 c rest white utf8 =
    elim (begins_with_separator rest) as (λ more. begins_with_separator rest ≡ more →
    IsUtf8 (with_single_spaces (c ∷ rest))) [
      | true ↦ λ more. rw white (rw more utf8)
      | false ↦ λ last. rw white (rw last (IsUtf8-append (SPACE ∷ []) _ space_utf8 utf8))
    ] refl

char_utf8 : (c : ℕ) (rest : List ℕ) → scalar c ≡ true → IsUtf8 (with_single_spaces rest) →
    IsUtf8 (with_single_spaces (encode_utf8 c ++ rest))
char_utf8 c rest valid utf8 =
    elim (is_separator c) as (λ white. is_separator c ≡ white →
    IsUtf8 (with_single_spaces (encode_utf8 c ++ rest))) [
      | true ↦ λ white. (
          let byte = encode_ascii c (separator_is_ascii c white) in
          rw byte (separator_utf8 c rest white utf8))
      | false ↦ λ other. (
          let stays = others_stay (encode_utf8 c) rest (λ k. no_separator c k other) in
          rw stays (IsUtf8-append (encode_utf8 c) _ (one_utf8 c valid) utf8))
    ] refl

chars_utf8 : (cs : List ℕ) → scalars cs ≡ true → IsUtf8 (with_single_spaces (encode_utf8_all cs))
chars_utf8 [] valid = IsUtf8-nil
chars_utf8 (c ∷ cs) valid =
    let both = both_true (scalar c) (scalars cs) valid in
    char_utf8 c (encode_utf8_all cs) both.0 (chars_utf8 cs both.1)

pub spaced_utf8 : (text : List ℕ) → IsUtf8 text → IsUtf8 (with_single_spaces text)
spaced_utf8 text utf8 =
    subst (λ (bytes : List ℕ). IsUtf8 (with_single_spaces bytes)) utf8.1.1
    (chars_utf8 utf8.0 utf8.1.0)
