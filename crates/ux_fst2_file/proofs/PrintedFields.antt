-- Fields as they are printed, numbers and labels among them, are read as they were.
use Rattle.std.proofs.Common.{arith, ◌≡◌, ◌≢◌, ℕ, ◌<◌, ◌≤◌, List, [], ◌∷◌, ◌++◌, true, not, refl, ◌∙◌, ap, cond, ne_eqb, length, decimal}
use Rattle.std.specs.Str.Parse.{AllDigits}
use Rattle.std.proofs.lemmas.Fmt.{decimal_is_IsNumeral}
use Rattle.std.proofs.lemmas.Str.Parse.{digit_from_value}
use Rattle.ux_base.specs.Lines.{LINE_FEED, CARRIAGE_RETURN}
use Rattle.ux_fst2_file.specs.Fields.{SPACE, MOST, IsNumber, begins_with_field, fields_of, before_space, from_space}
use Rattle.ux_fst2_file.specs.Lines.{IsLabel}
use Rattle.ux_fst2_file.specs.Printed.{label_text, IsSmallLabel}
use Rattle.ux_fst2_file.specs.declared.file.Fst2Label.{Fst2Label}
use Rattle.ux_fst2_file.specs.declared.file.Fst2Label.TheVariants.{Tag, Call}
use Rattle.ux_fst2_file.proofs.FieldLemmas.{fields-first}

-- a byte of a field, and of a line
abbrev pub IsSolid : ℕ → Type 0
IsSolid b = (b ≢ SPACE) × (b ≢ LINE_FEED) × (b ≢ CARRIAGE_RETURN)

abbrev pub AreSolid : List ℕ → Type 0
AreSolid [] = Unit {0}
AreSolid (b ∷ text) = IsSolid b × AreSolid text

abbrev pub IsPlain : ℕ → Type 0
IsPlain b = (b ≢ LINE_FEED) × (b ≢ CARRIAGE_RETURN)

abbrev pub ArePlain : List ℕ → Type 0
ArePlain [] = Unit {0}
ArePlain (b ∷ text) = IsPlain b × ArePlain text

pub plain_from_solid : (text : List ℕ) → AreSolid text → ArePlain text
plain_from_solid [] h = tt
plain_from_solid (b ∷ text) h = ((h.0.1, h.0.2), plain_from_solid text h.1)

pub plain-append : (xs ys : List ℕ) → ArePlain xs → ArePlain ys → ArePlain (xs ++ ys)
plain-append [] ys h k = k
plain-append (b ∷ xs) ys h k = (h.0, plain-append xs ys h.1 k)

-- digits are solid
pub solid_digits : (ds : List ℕ) → AllDigits 10 ds → AreSolid ds
solid_digits [] h = tt
solid_digits (c ∷ cs) h =
    let range = digit_from_value c h.0 in (
      (
        λ e. omega (arith, range.0, e),
        λ e. omega (arith, range.0, e),
        λ e. omega (arith, range.0, e),
      ),
      solid_digits cs h.1,
    )

pub solid_decimal : (n : ℕ) → n ≤ MOST → AreSolid (decimal n)
solid_decimal n h = solid_digits (decimal n) (decimal_is_IsNumeral n (omega (arith, h))).0.1

pub some_decimal : (n : ℕ) → n ≤ MOST → 0 < length (decimal n)
some_decimal n h = (decimal_is_IsNumeral n (omega (arith, h))).0.0

pub number_decimal : (n : ℕ) → n ≤ MOST → IsNumber (decimal n) n
number_decimal n h =
    let is = decimal_is_IsNumeral n (omega (arith, h)) in
    record { numeral = is.0; value = omega (arith, h, is.1) }

-- a solid field and then a space
pub cut_solid : (field text : List ℕ) → AreSolid field →
    (before_space (field ++ SPACE ∷ text) ≡ field)
    × (from_space (field ++ SPACE ∷ text) ≡ SPACE ∷ text)
cut_solid [] text h = (refl, refl)
cut_solid (b ∷ field) text h =
    let e = ne_eqb b SPACE h.0.0 in
    let later = cut_solid field text h.1 in (
      ap (λ t. cond t [] (b ∷ before_space (field ++ SPACE ∷ text))) e
          ∙ ap (λ (t : List ℕ). b ∷ t) later.0,
      ap (λ t. cond t (b ∷ (field ++ SPACE ∷ text)) (from_space (field ++ SPACE ∷ text))) e
          ∙ later.1,
    )

pub front_solid : (field text : List ℕ) → AreSolid field → 0 < length field →
    begins_with_field (field ++ text) ≡ true
front_solid [] text h some = absurd (omega (arith, some))
front_solid (b ∷ field) text h some = ap not (ne_eqb b SPACE h.0.0)

pub fields_solid : (field text : List ℕ) → AreSolid field → 0 < length field →
    fields_of (field ++ SPACE ∷ text) ≡ field ∷ fields_of text
fields_solid field text h some =
    let cut = cut_solid field text h in
    fields-first (field ++ SPACE ∷ text) (front_solid field (SPACE ∷ text) h some)
    ∙ (ap (λ (f : List ℕ). f ∷ fields_of (from_space (field ++ SPACE ∷ text))) cut.0
    ∙ ap (λ (t : List ℕ). field ∷ fields_of t) cut.1)

pub whole_solid : (field : List ℕ) → AreSolid field →
    (before_space field ≡ field) × (from_space field ≡ [])
whole_solid [] h = (refl, refl)
whole_solid (b ∷ field) h =
    let e = ne_eqb b SPACE h.0.0 in
    let later = whole_solid field h.1 in (
      ap (λ t. cond t [] (b ∷ before_space field)) e ∙ ap (λ (t : List ℕ). b ∷ t) later.0,
      ap (λ t. cond t (b ∷ field) (from_space field)) e ∙ later.1,
    )

-- labels
pub label_solid : (label : Fst2Label) → IsSmallLabel label →
    AreSolid (label_text label) × (0 < length (label_text label))
label_solid (Tag tag) small = (solid_decimal tag small, some_decimal tag small)
label_solid (Call graph) small = (
  (
    (λ e. omega (arith, e), λ e. omega (arith, e), λ e. omega (arith, e)),
    solid_decimal graph small,
  ),
  omega arith,
)

pub label_says : (label : Fst2Label) → IsSmallLabel label → IsLabel (label_text label) label
label_says (Tag tag) small = number_decimal tag small
label_says (Call graph) small = (decimal graph, refl, number_decimal graph small)
