-- One character of UTF-16, or a surrogate without a partner.
use Rattle.std.proofs.Common.{arith, ◌≡◌, ℕ, ◌<◌, ◌≤◌, ◌*◌, List, [], ◌∷◌, refl, ap, ◌∙◌, length, get_or, inl, inr}
use Rattle.std.proofs.lemmas.Str.{utf16_chars_lone, length-encode, len_utf8_bounds}
use Rattle.std.proofs.lemmas.Bool.{cases_lt}
use Rattle.std.proofs.lemmas.Bool.Decides.{nat_tests}
use Rattle.std.proofs.str.Utf16.{IsPair, lone_unit_char_surrogate, one_unit, two_units}
use Rattle.std.specs.Char.{len_utf8}
use Rattle.std.specs.Char.Utf16.{utf16_chars}
use Rattle.std.specs.List.{flat_map}
use Rattle.std.specs.Prelude.{encode_utf8}
use Rattle.ux_decode.specs.Decoding.{IsLone}
use Rattle.ux_decode.specs.Encoding.{unit_bytes, units_of, char_bytes}
use Rattle.ux_decode.specs.declared.encoding.Order.{Order}
use Rattle.ux_decode.specs.declared.encoding.Order.TheVariants.{Little, Big}

-- fewer than two bytes are no unit
pub units_of-short : (order : Order) (bytes : List ℕ) → length bytes < 2 → units_of order bytes ≡ []
units_of-short order [] short = refl
units_of-short order (half ∷ []) short = refl
units_of-short order (first ∷ (second ∷ bytes)) short = absurd (omega arith)

-- a surrogate that makes no pair with the next unit has no partner
pub IsLone-apart : (unit : ℕ) (units : List ℕ) → 0xD800 ≤ unit → unit < 0xE000 →
    ¬ (IsPair unit (get_or units 0 0)) → IsLone unit units
IsLone-apart unit units from below apart = (
  utf16_chars units,
  utf16_chars_lone unit units apart
      ∙ ap (λ o. o ∷ utf16_chars units) (lone_unit_char_surrogate unit from below),
)

-- nor does one before bytes that have no further unit
pub IsLone-last : (order : Order) (unit : ℕ) (rest : List ℕ) → 0xD800 ≤ unit → unit < 0xE000 →
    length rest < 2 → IsLone unit (units_of order rest)
IsLone-last order unit rest from below short =
    let none = ap (λ units. get_or units 0 0) (units_of-short order rest short) in
    IsLone-apart unit (units_of order rest) from below (λ pair. omega (arith, pair.2, none))

-- nor does one before another unit that is no low surrogate
pub IsLone-before : (unit next : ℕ) (units later : List ℕ) → 0xD800 ≤ unit → unit < 0xE000 →
    units ≡ next ∷ later → (0xDC00 ≤ next → next < 0xE000 → ⊥) → IsLone unit units
IsLone-before unit next units later from below are other =
    let first : get_or units 0 0 ≡ next = ap (λ us. get_or us 0 0) are in
    IsLone-apart unit units from below
    (λ pair. other (omega (arith, pair.2, first)) (omega (arith, pair.3, first)))

flat_map-one : (order : Order) (unit : ℕ) → length (flat_map (unit_bytes order) (unit ∷ [])) ≡ 2
flat_map-one Little unit = refl
flat_map-one Big unit = refl

flat_map-two : (order : Order) (high low : ℕ) →
    length (flat_map (unit_bytes order) (high ∷ (low ∷ []))) ≡ 4
flat_map-two Little high low = refl
flat_map-two Big high low = refl

-- a character has two bytes, or else four
pub length-char_bytes_one : (order : Order) (c : ℕ) → c < 0x1_0000 →
    length (char_bytes order c) ≡ 2
length-char_bytes_one order c below =
    ap (λ us. length (flat_map (unit_bytes order) us)) (one_unit c below) ∙ flat_map-one order c

pub length-char_bytes_two : (order : Order) (c : ℕ) → 0x1_0000 ≤ c →
    length (char_bytes order c) ≡ 4
length-char_bytes_two order c from =
    ap (λ us. length (flat_map (unit_bytes order) us)) (two_units c from) ∙ flat_map-two order _ _

len_utf8-small : (c : ℕ) → c < 0x1_0000 → len_utf8 c ≤ 3
len_utf8-small c below = grind (arith, nat_tests)

-- and has bytes
pub char_bytes-some : (order : Order) (c : ℕ) → 2 ≤ length (char_bytes order c)
char_bytes-some order c = elim (cases_lt c 0x1_0000) [
  | inl below ↦ omega (arith, length-char_bytes_one order c below)
  | inr from ↦ omega (arith, length-char_bytes_two order c from)
]

-- in UTF-8 it has at most one and a half times as many
pub char_bytes-bound : (order : Order) (c : ℕ) →
    2 * length (encode_utf8 c) ≤ 3 * length (char_bytes order c)
char_bytes-bound order c =
    let size = length-encode c in
    elim (cases_lt c 0x1_0000) [
      | inl below ↦ omega (arith, size, len_utf8-small c below, length-char_bytes_one order c below)
      | inr from ↦ (
          let most = len_utf8_bounds c in
          omega (arith, size, most.1, length-char_bytes_two order c from))
    ]
