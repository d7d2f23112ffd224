-- What is read of the bytes that spell characters: those characters, and no more where the rest begins
-- with none.
use Rattle.std.proofs.Common.{arith, ◌≡◌, ℕ, ◌<◌, ◌≤◌, ◌+◌, ◌-◌, ◌*◌, ◌/◌, ◌%◌, true, List, [], ◌∷◌, ◌++◌, refl, sym, ap, ◌∙◌, inl, inr, append_assoc, Some, ◌⊎◌}
use Rattle.std.proofs.lemmas.Bool.{and_parts, cases_lt, le-leb, le-ltb, lt-leb, lt-ltb}
use Rattle.std.proofs.lemmas.Str.{utf16_chars-nil, utf16_chars_lone, utf16_chars_pair}
use Rattle.std.specs.Char.{IsScalar}
use Rattle.std.specs.Char.Escape.{encode_utf16}
use Rattle.std.specs.Char.Utf16.{lone_unit_char, utf16_chars, surrogate_pair_char}
use Rattle.std.specs.List.{flat_map}
use Rattle.std.specs.Option.{some_prefix}
use Rattle.std.specs.Str.{all_scalars}
use Rattle.ux_decode.specs.Decoding.{BeginsLone}
use Rattle.ux_decode.specs.Encoding.{unit_bytes, units_of, char_bytes}
use Rattle.ux_decode.specs.declared.encoding.Order.{Order}
use Rattle.ux_decode.specs.declared.encoding.Order.TheVariants.{Little, Big}
use lib.Utf8.{scalar, scalars, scalar_cases}

-- the two bytes of a unit are the unit
units_of-unit : (order : Order) (unit : ℕ) (more : List ℕ) →
    units_of order (unit_bytes order unit ++ more) ≡ unit ∷ units_of order more
units_of-unit Little unit more =
    let same : unit % 256 + 256 * (unit / 256) ≡ unit = omega arith in
    ap (λ u. u ∷ units_of Little more) same
units_of-unit Big unit more =
    let same : 256 * (unit / 256) + unit % 256 ≡ unit = omega arith in
    ap (λ u. u ∷ units_of Big more) same

-- and so are the bytes of units
units_of-units : (order : Order) (units more : List ℕ) →
    units_of order (flat_map (unit_bytes order) units ++ more) ≡ units ++ units_of order more
units_of-units order [] more = refl
units_of-units order (unit ∷ units) more =
    let later = flat_map (unit_bytes order) units in
    ap (units_of order) (append_assoc (unit_bytes order unit) later more)
    ∙ units_of-unit order unit (later ++ more)
    ∙ ap (λ us. unit ∷ us) (units_of-units order units more)

-- The units of a character, and the character of a unit. (std has these lemmas too, in a module from which
-- no definition that a clause cites may come.)
one_unit : (c : ℕ) → c < 0x1_0000 → encode_utf16 c ≡ c ∷ []
one_unit c below = rw (lt-ltb c 0x1_0000 below) refl

two_units : (c : ℕ) → 0x1_0000 ≤ c →
    encode_utf16 c ≡ (0xD800 + (c - 0x1_0000) / 0x400) ∷ (0xDC00 + (c - 0x1_0000) % 0x400) ∷ []
two_units c from = rw (le-ltb c 0x1_0000 from) refl

lone_unit_char_low : (u : ℕ) → u < 0xD800 → lone_unit_char u ≡ Some u
lone_unit_char_low u below = rw (lt-leb 0xD800 u below) refl

lone_unit_char_high : (u : ℕ) → 0xE000 ≤ u → lone_unit_char u ≡ Some u
lone_unit_char_high u from = rw (le-leb 0xD800 u (omega (arith, from)), le-ltb u 0xE000 from) refl

-- a unit that is no surrogate is its own character
utf16_chars-one : (c : ℕ) (more : List ℕ) → (c < 0xD800) ⊎ (0xE000 ≤ c) → c < 0x1_0000 →
    utf16_chars (encode_utf16 c ++ more) ≡ Some c ∷ utf16_chars more
utf16_chars-one c more (inl low) below =
    ap (λ us. utf16_chars (us ++ more)) (one_unit c below)
    ∙ utf16_chars_lone c more (λ pair. omega (arith, pair.0))
    ∙ ap (λ o. o ∷ utf16_chars more) (lone_unit_char_low c low)
utf16_chars-one c more (inr high) below =
    ap (λ us. utf16_chars (us ++ more)) (one_unit c below)
    ∙ utf16_chars_lone c more (λ pair. omega (arith, pair.1))
    ∙ ap (λ o. o ∷ utf16_chars more) (lone_unit_char_high c high)

-- a pair is the character that it was made of
utf16_chars-two : (c : ℕ) (more : List ℕ) → 0x1_0000 ≤ c → c < 0x11_0000 →
    utf16_chars (encode_utf16 c ++ more) ≡ Some c ∷ utf16_chars more
utf16_chars-two c more from below =
    let over = c - 0x1_0000 in
    let high = 0xD800 + over / 0x400 in
    let low = 0xDC00 + over % 0x400 in
    let same : surrogate_pair_char high low ≡ c = omega arith in
    ap (λ us. utf16_chars (us ++ more)) (two_units c from)
    ∙ utf16_chars_pair high low more (omega arith, omega arith, omega arith, omega arith)
    ∙ ap (λ x. Some x ∷ utf16_chars more) same

-- the units of a character are the character
utf16_chars-char : (c : ℕ) (more : List ℕ) → IsScalar c →
    utf16_chars (encode_utf16 c ++ more) ≡ Some c ∷ utf16_chars more
utf16_chars-char c more is = elim (scalar_cases c is) [
  | inl low ↦ utf16_chars-one c more (inl low) (omega arith)
  | inr high ↦ elim (cases_lt c 0x1_0000) [
    | inl below ↦ utf16_chars-one c more (inr high.0) below
    | inr from ↦ utf16_chars-two c more from high.1
  ]
]

-- the characters up to the first surrogate without a partner
abbrev pub front_of : Order → List ℕ → List ℕ
front_of order bytes = some_prefix (utf16_chars (units_of order bytes))

-- what spells characters has them at its front, and no more where the rest begins with none
pub front_of-spelled : (order : Order) (cs rest : List ℕ) → all_scalars cs ≡ true →
    front_of order rest ≡ [] → front_of order (flat_map (char_bytes order) cs ++ rest) ≡ cs
front_of-spelled order [] rest are none = none
front_of-spelled order (c ∷ cs) rest are none =
    let bytes = flat_map (char_bytes order) cs in
    let each = and_parts (scalar c) (scalars cs) are in
    let units = units_of order (bytes ++ rest) in
    ap (front_of order) (append_assoc (char_bytes order c) bytes rest)
    ∙ ap (λ us. some_prefix (utf16_chars us)) (units_of-units order (encode_utf16 c) (bytes ++ rest))
    ∙ ap some_prefix (utf16_chars-char c units each.0)
    ∙ ap (λ xs. c ∷ xs) (front_of-spelled order cs rest each.1 none)

pub front_of-nil : (order : Order) → front_of order [] ≡ []
front_of-nil order = ap some_prefix utf16_chars-nil

pub front_of-half : (order : Order) (half : ℕ) → front_of order (half ∷ []) ≡ []
front_of-half order half = ap some_prefix utf16_chars-nil

pub front_of-lone : (order : Order) (rest : List ℕ) → BeginsLone order rest → front_of order rest ≡ []
front_of-lone order rest lone = ap some_prefix lone.1

-- what begins with a surrogate has a unit
pub lone-nil : (order : Order) (rest : List ℕ) → BeginsLone order rest → units_of order rest ≡ [] → ⊥
lone-nil order rest lone none =
    let units = sym lone.1 ∙ ap utf16_chars none ∙ utf16_chars-nil in
    cc (units)
