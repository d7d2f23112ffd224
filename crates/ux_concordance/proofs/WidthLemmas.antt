-- The width of a text that is put together.
use Rattle.std.proofs.Common.{arith, ◌≡◌, ℕ, ◌+◌, ◌<◌, ◌≤◌, List, [], ◌∷◌, ◌++◌, refl, sym, ap, subst, ◌∙◌, sum_by, encode_utf8, encode_utf8_all, IsUtf8, append-nil, length, get_or, take, drop}
use Rattle.std.proofs.Math.Seq.{take-append_seam}
use Rattle.std.proofs.lemmas.List.Prefix.{front_rest}
use Rattle.std.specs.Str.{chars}
use Rattle.std.proofs.lemmas.List.{length-append}
use Rattle.std.proofs.lemmas.List.Sums.{sum_by-append, sum_by-cons}
use Rattle.std.proofs.lemmas.Str.{chars-append, chars-nil, chars_past_char, encodes-chars, IsCharBoundary-at_seam, IsCharBoundary-from_take, IsUtf8-take, IsUtf8-drop}
use Rattle.unicode_width.specs.Width.{char_width}
use Rattle.ux_concordance.specs.Widths.{columns_of, width}

-- one character alone
pub chars-one : (c : ℕ) → IsUtf8 (encode_utf8 c) → chars (encode_utf8 c) ≡ c ∷ []
chars-one c utf8 = chars_past_char (encode_utf8 c) [] c utf8 (sym (append-nil (encode_utf8 c)))
    ∙ ap (λ (l : List ℕ). c ∷ l) chars-nil

pub width-nil : width [] ≡ 0
width-nil = ap (sum_by columns_of) chars-nil

pub width-append : (xs ys : List ℕ) → IsUtf8 xs → width (xs ++ ys) ≡ width xs + width ys
width-append xs ys utf8 = ap (sum_by columns_of) (chars-append xs ys utf8)
    ∙ sum_by-append columns_of (chars xs) (chars ys)

pub width-one : (c : ℕ) → IsUtf8 (encode_utf8 c) → width (encode_utf8 c) ≡ columns_of c
width-one c utf8 =
    let sum = ap (sum_by columns_of) (chars-one c utf8) ∙ sum_by-cons columns_of c [] in
    omega (arith, sum)

module _ (text front end : List ℕ) (is : text ≡ front ++ end) (whole : IsUtf8 text) where
  -- what stands in front of whole characters at the end of a text is whole too
  pub whole-front : IsUtf8 end → IsUtf8 front
  whole-front last =
      subst IsUtf8 (ap (take (length front)) is ∙ take-append_seam front end)
      (IsUtf8-take text (length front) whole (IsCharBoundary-at_seam text front end is last))

  -- and so is what stands behind whole characters at its begin
  pub whole-end : IsUtf8 front → IsUtf8 end
  whole-end first =
      let taken = ap (take (length front)) is ∙ take-append_seam front end in
      let len = length-append front end in
      let long = ap length is in
      subst IsUtf8 (front_rest text front end is)
      (IsUtf8-drop text (length front) whole
      (IsCharBoundary-from_take text (length front) whole (omega (arith, len, long))
      (subst IsUtf8 (sym taken) first)))

-- no part but the empty one has no characters
some-chars : (text : List ℕ) → IsUtf8 text → 0 < length text → chars text ≡ [] → ⊥
some-chars text whole some none =
    let empty : [] ≡ text = sym (ap encode_utf8_all none) ∙ encodes-chars text whole in
    let short = ap length empty in
    omega (arith, some, short)

first-adds : (xs ys later : List ℕ) (c : ℕ) → xs ++ ys ≡ c ∷ later → (xs ≡ [] → ⊥) →
    columns_of c ≤ sum_by columns_of xs
first-adds [] ys later c is some = absurd (some refl)
first-adds (x ∷ xs) ys later c is some =
    let same : x ≡ c = ap (λ (l : List ℕ). get_or l 0 x) is in
    let sum = sum_by-cons columns_of x xs in
    let here = ap columns_of same in
    omega (arith, sum, here)

last-adds : (xs ys earlier : List ℕ) (c : ℕ) → xs ++ ys ≡ earlier ++ c ∷ [] → (ys ≡ [] → ⊥) →
    columns_of c ≤ sum_by columns_of ys
last-adds [] ys earlier c is some =
    let sum = ap (sum_by columns_of) is ∙ sum_by-append columns_of earlier (c ∷ []) in
    let one = sum_by-cons columns_of c [] in
    omega (arith, sum, one)
last-adds (x ∷ xs) ys [] c is some = absurd (some (nothing_behind xs ys (ap (drop 1) is)))
  where
    nothing_behind : (xs ys : List ℕ) → xs ++ ys ≡ [] → ys ≡ []
    nothing_behind [] ys is = is
    nothing_behind (x ∷ xs) ys is = cc
last-adds (x ∷ xs) ys (z ∷ earlier) c is some = last-adds xs ys earlier c (ap (drop 1) is) some

-- the first part of a text is as wide as the text's first character
pub wide-first : (part end later : List ℕ) (c : ℕ) → IsUtf8 (part ++ end) → IsUtf8 part →
    0 < length part → part ++ end ≡ encode_utf8 c ++ later → columns_of c ≤ width part
wide-first part end later c text whole some is =
    first-adds (chars part) (chars end) (chars later) c
    (sym (chars-append part end whole) ∙ chars_past_char (part ++ end) later c text is)
    (some-chars part whole some)

-- the last part is as wide as its last character
pub wide-last : (begin part earlier : List ℕ) (c : ℕ) → IsUtf8 begin → IsUtf8 part →
    0 < length part → IsUtf8 earlier → IsUtf8 (encode_utf8 c) →
    begin ++ part ≡ earlier ++ encode_utf8 c → columns_of c ≤ width part
wide-last begin part earlier c first whole some before last is =
    last-adds (chars begin) (chars part) (chars earlier) c
    (sym (chars-append begin part first) ∙ ap chars is ∙ chars-append earlier (encode_utf8 c) before
    ∙ ap (λ (l : List ℕ). chars earlier ++ l) (chars-one c last))
    (some-chars part whole some)

-- a character that ASCII prints takes one column
pub printed_width : (c : ℕ) → 0x20 ≤ c → c < 0x7F → columns_of c ≡ 1
unfolding char_width
printed_width c from to = grind (arith, from, to)
