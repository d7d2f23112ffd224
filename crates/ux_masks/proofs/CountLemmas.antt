-- The characters of a text are those before what is left, and those that are left.
use Rattle.std.proofs.Common.{◌≡◌, ℕ, ◌+◌, List, ◌++◌, refl, ◌∙◌, ap, subst, length, take, length-append, encode_utf8_all}
use Rattle.std.specs.Str.{chars, IsUtf8, IsCharBoundary}
use Rattle.std.proofs.lemmas.List.{take_at}
use Rattle.std.proofs.lemmas.Str.{IsCharBoundary-at_seam, IsUtf8-take, chars-append, encodes-chars}
use Rattle.ux_masks.specs.Texts.{front_of}

-- what stands before a place where a text may be cut is text
pub utf8_taken : (text front left : List ℕ) → IsUtf8 text → text ≡ front ++ left →
    IsCharBoundary text (length front) → IsUtf8 front
utf8_taken text front left whole is cut =
    let first : take (length front) text ≡ front =
    ap (take (length front)) is ∙ take_at front left (length front) refl in
    subst IsUtf8 first (IsUtf8-take text (length front) whole cut)

-- what stands before a text that is left is text
pub utf8_front : (text front left : List ℕ) → IsUtf8 text → IsUtf8 left → text ≡ front ++ left →
    IsUtf8 front
utf8_front text front left whole end is =
    utf8_taken text front left whole is (IsCharBoundary-at_seam text front left is end)

chars_both : (text front left : List ℕ) → IsUtf8 front → text ≡ front ++ left →
    chars text ≡ chars front ++ chars left
chars_both text front left first is = ap chars is ∙ chars-append front left first

pub characters : (text front left : List ℕ) → IsUtf8 text → IsUtf8 left → text ≡ front ++ left →
    length (chars text) ≡ length (chars front) + length (chars left)
characters text front left whole end is =
    ap (λ (cs : List ℕ). length cs)
    (chars_both text front left (utf8_front text front left whole end is) is)
    ∙ length-append (chars front) (chars left)

-- the first characters, as many as the front has, are the front
pub front_at : (text front left : List ℕ) → IsUtf8 front → text ≡ front ++ left →
    front_of text (length (chars front)) ≡ front
front_at text front left first is =
    ap (λ (cs : List ℕ). encode_utf8_all (take (length (chars front)) cs))
    (chars_both text front left first is)
    ∙ ap encode_utf8_all (take_at (chars front) (chars left) (length (chars front)) refl)
    ∙ encodes-chars front first
