-- Where a text is refused.
use Rattle.std.proofs.Common.{arith, ◌≡◌, ◌⊎◌, ℕ, ◌+◌, ◌<◌, zero, suc, List, [], ◌∷◌, ◌++◌, inl, inr, refl, sym, ◌∙◌, ap, subst, length, append_assoc, append-nil, length-append, get_or}
use Rattle.std.specs.Prelude.{Contains}
use Rattle.std.specs.Str.{chars, IsUtf8, IsAscii}
use Rattle.std.proofs.lemmas.Str.{chars-append, chars-IsAscii, IsUtf8-append, IsUtf8-from_ascii, IsCharBoundary-before_ascii}
use Rattle.ux_masks.specs.declared.mask.Mask.{Mask}
use Rattle.ux_masks.specs.Texts.{IsNamed, refused_texts, IsLexicalText, IsMaskText, named, lexical, BeginsMask, front_of, IsBadAt}
use Rattle.ux_masks.specs.Reading.{BeginsLexical, IsStuckLexical, StopsLexical}
use Rattle.ux_masks.proofs.CountLemmas.{utf8_taken, front_at}
use Rattle.ux_masks.proofs.WrittenLemmas.{name_written, refused_written, begins_mask}

-- a text that is refused whole
refused_none : (text : List ℕ) → (IsNamed text → ⊥) → Contains refused_texts text → (mask : Mask) →
    IsMaskText text mask → ⊥
refused_none text other among mask (named n) = other (mask, n)
refused_none text other among mask (lexical not_named not_refused l) = not_refused among

pub refuses_whole : (text : List ℕ) (place : ℕ) → IsUtf8 text → (IsNamed text → ⊥) →
    Contains refused_texts text → place ≡ length (chars text) → IsBadAt text place
refuses_whole text place utf8 other among count =
    let l = refused_written text among in
    let begun : BeginsLexical text =
    ([], l.0, subst (λ (t : List ℕ). IsLexicalText t l.0) (sym (append-nil text)) l.1) in
    record {
      none = refused_none text other among;
      begins = subst BeginsMask
          (sym (front_at text text [] utf8 (sym (append-nil text)))
          ∙ ap (front_of text) (sym count))
          (begins_mask text begun);
      stops = inl count;
    }

-- no mask text begins where no text of a lexical mask does
not_begun : (front : List ℕ) → (BeginsLexical front → ⊥) → (rest : List ℕ) (mask : Mask) →
    IsMaskText (front ++ rest) mask → ⊥
not_begun front none rest mask (named n) =
    let l = name_written (front ++ rest) mask n in none (rest, l.0, l.1)
not_begun front none rest mask (lexical not_named not_refused l) = none (rest, mask, l)

none_lexical : (text : List ℕ) → (IsNamed text → ⊥) →
    ((mask : Mask) → IsLexicalText text mask → ⊥) → (mask : Mask) → IsMaskText text mask → ⊥
none_lexical text other none mask (named n) = other (mask, n)
none_lexical text other none mask (lexical not_named not_refused l) = none mask l

one_ascii : (b : ℕ) → b < 128 → IsAscii (b ∷ [])
one_ascii b small zero = small
one_ascii b small (suc i) = omega arith

-- a character more
one_more : (front : List ℕ) (b : ℕ) → IsUtf8 front → b < 128 →
    length (chars (front ++ b ∷ [])) ≡ length (chars front) + 1
one_more front b utf8 small =
    ap (λ (cs : List ℕ). length cs) (chars-append front (b ∷ []) utf8
    ∙ ap (λ t. chars front ++ t) (chars-IsAscii (b ∷ []) (one_ascii b small)))
    ∙ length-append (chars front) (b ∷ [])

stuck_place : (text front left : List ℕ) (place : ℕ) → IsUtf8 text → IsUtf8 front →
    text ≡ front ++ left → IsStuckLexical front left → place ≡ length (chars front) →
    (place < length (chars text)) × (BeginsMask (front_of text (place + 1)) → ⊥)
stuck_place text front [] place whole utf8 e stuck count = absurd stuck
stuck_place text front (b ∷ left) place whole utf8 e stuck count =
    let more = one_more front b utf8 stuck.0 in
    let both : IsUtf8 (front ++ b ∷ []) =
    IsUtf8-append front (b ∷ []) utf8 (IsUtf8-from_ascii (b ∷ []) (one_ascii b stuck.0)) in
    let again : text ≡ (front ++ b ∷ []) ++ left = e ∙ sym (append_assoc front (b ∷ []) left) in
    let long : length (chars text) ≡ length (chars (front ++ b ∷ [])) + length (chars left) =
    ap (λ t. length (chars t)) again
    ∙ ap (λ (cs : List ℕ). length cs) (chars-append (front ++ b ∷ []) left both)
    ∙ length-append (chars (front ++ b ∷ [])) (chars left) in
    let here : front_of text (place + 1) ≡ front ++ b ∷ [] =
    ap (front_of text) (ap (λ n. n + 1) count ∙ sym more)
    ∙ front_at text (front ++ b ∷ []) left both again in (
      omega (arith, more, long, count),
      λ begun.
          let there = subst BeginsMask here begun in
          not_begun (front ++ b ∷ []) stuck.1 there.0 there.1 there.2,
    )

byte_there : (front : List ℕ) (b : ℕ) (left : List ℕ) →
    get_or (front ++ b ∷ left) (length front) 0 ≡ b
byte_there [] b left = refl
byte_there (f ∷ front) b left = byte_there front b left

-- what stands before an ASCII character, or is all, is text
front_utf8 : (text front left : List ℕ) → IsUtf8 text → text ≡ front ++ left →
    ((left ≡ []) ⊎ IsStuckLexical front left) → IsUtf8 front
front_utf8 text front left utf8 e (inl none) =
    subst IsUtf8 (e ∙ ap (λ t. front ++ t) none ∙ append-nil front) utf8
front_utf8 text front [] utf8 e (inr stuck) = absurd stuck
front_utf8 text front (b ∷ left) utf8 e (inr stuck) =
    let there : get_or text (length front) 0 ≡ b =
    ap (λ t. get_or t (length front) 0) e ∙ byte_there front b left in
    let inside : length front < length text =
    omega (arith, ap length e, length-append front (b ∷ left)) in
    let small = stuck.0 in
    utf8_taken text front (b ∷ left) utf8 e
    (IsCharBoundary-before_ascii text (length front) inside (omega (arith, there, small)))

pub refuses_there : (text left : List ℕ) (place : ℕ) → IsUtf8 text → (IsNamed text → ⊥) →
    (s : StopsLexical text left) → place ≡ length (chars s.front) → IsBadAt text place
refuses_there text left place whole other s count =
    let utf8 = front_utf8 text s.front left whole s.whole s.stuck in
    record {
      none = none_lexical text other s.none;
      begins = subst BeginsMask
          (sym (front_at text s.front left utf8 s.whole) ∙ ap (front_of text) (sym count))
          (begins_mask s.front s.begins);
      stops = elim s.stuck [
        | inl none ↦ inl (count ∙ ap (λ t. length (chars t))
            (sym (s.whole ∙ ap (λ t. s.front ++ t) none ∙ append-nil s.front)))
        | inr stuck ↦ inr (stuck_place text s.front left place whole utf8 s.whole stuck count)
      ];
    }
