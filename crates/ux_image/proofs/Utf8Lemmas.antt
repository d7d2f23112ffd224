-- The pieces of a text are texts, and those of its characters: a separator is a character of one
-- byte, and no byte of a longer character is one.
use Rattle.std.proofs.Common.{arith, ◌≡◌, ℕ, ◌<◌, List, [], ◌∷◌, ◌++◌, Bool, true, false, cond, refl, sym, ◌∙◌, ap, subst, length, get_or, map, filter, inl, inr}
use Rattle.std.specs.Prelude.{All, encode_utf8, ◌==◌}
use Rattle.std.specs.Str.{IsUtf8, chars, encode_utf8_all, all_scalars}
use Rattle.std.specs.List.{onto_first, slice_split}
use Rattle.std.proofs.lemmas.Bool.{false≢true, and_parts, or_cases}
use Rattle.std.proofs.lemmas.Bool.Decides.{Decides-eqb}
use Rattle.std.proofs.lemmas.List.{append-nil}
use Rattle.std.proofs.lemmas.List.Elements.{All-nil, All-cons, All-head, All-tail, All-from_get_or, filter-append}
use Rattle.std.proofs.lemmas.List.Splits.{slice_split-cons_no}
use Rattle.std.proofs.lemmas.Str.{IsUtf8-nil, IsUtf8-append, IsUtf8-encode, encode_ascii, inside_one, chars-nil, chars_past_char, encodes-chars, scalars-chars}
use Rattle.ux_dela.specs.Signs.{SPACE, HYPHEN}
use Rattle.ux_image.specs.Pieces.{is_separator, pieces, separators}
use Rattle.ux_image.specs.Cutting.{HasNoSeparator}
use Rattle.ux_image.proofs.CutLemmas.{separators_none}
use lib.Utf8.{scalar}

-- a separator is ASCII
separator_ascii : (c : ℕ) → is_separator c ≡ true → c < 128
separator_ascii c is = elim (or_cases (c == SPACE) (c == HYPHEN) is) [
  | inl space ↦ let at = (Decides-eqb c SPACE).0 space in omega (arith, at)
  | inr hyphen ↦ let at = (Decides-eqb c HYPHEN).0 hyphen in omega (arith, at)
]

-- no byte of another character is a separator
no_separator_in : (c : ℕ) → is_separator c ≡ false → HasNoSeparator (encode_utf8 c)
no_separator_in c other =
    All-from_get_or (λ b. is_separator b ≡ false) (encode_utf8 c) 0 (λ k low. by k low
    (is_separator (get_or (encode_utf8 c) k 0)) refl)
  where
    by : (k : ℕ) → k < length (encode_utf8 c) → (t : Bool) →
        is_separator (get_or (encode_utf8 c) k 0) ≡ t →
        is_separator (get_or (encode_utf8 c) k 0) ≡ false
    by k low true e =
        let same = inside_one c [] (encode_utf8 c) k (sym (append-nil (encode_utf8 c))) low
        (separator_ascii (get_or (encode_utf8 c) k 0) e) in
        absurd (false≢true (sym other ∙ ap is_separator same ∙ e))
    by k low false e = e

-- so its bytes belong to the first piece
first_longer : (front : List ℕ) → HasNoSeparator front → (text piece : List ℕ)
    (later : List (List ℕ)) → pieces text ≡ piece ∷ later →
    pieces (front ++ text) ≡ (front ++ piece) ∷ later
first_longer [] none text piece later is = is
first_longer (b ∷ front) none text piece later is =
    slice_split-cons_no is_separator b (front ++ text)
    (All-head (λ x. is_separator x ≡ false) b front none)
    ∙ ap (λ ps. onto_first b ps) (first_longer front
    (All-tail (λ x. is_separator x ≡ false) b front none) text piece later is)

-- a text has a first piece
pub some_piece : (text : List ℕ) →
    (piece : List ℕ) × (later : List (List ℕ)) × (pieces text ≡ piece ∷ later)
some_piece [] = ([], [], refl)
some_piece (b ∷ text) = by (is_separator b) refl (pieces text) refl
  where
    by : (t : Bool) → is_separator b ≡ t → (ps : List (List ℕ)) → pieces text ≡ ps →
        (piece : List ℕ) × (later : List (List ℕ)) × (pieces (b ∷ text) ≡ piece ∷ later)
    by true e ps is =
        ([], pieces text, ap (λ t. cond t ([] ∷ pieces text) (onto_first b (pieces text))) e)
    by false e [] is = (
      b ∷ [],
      [],
      ap (λ t. cond t ([] ∷ pieces text) (onto_first b (pieces text))) e
          ∙ ap (λ qs. onto_first b qs) is,
    )
    by false e (p ∷ ps) is = (
      b ∷ p,
      ps,
      ap (λ t. cond t ([] ∷ pieces text) (onto_first b (pieces text))) e
          ∙ ap (λ qs. onto_first b qs) is,
    )

pieces_of_characters : (cs : List ℕ) → all_scalars cs ≡ true →
    All IsUtf8 (pieces (encode_utf8_all cs))
pieces_of_characters [] are = All-cons IsUtf8 [] [] IsUtf8-nil (All-nil IsUtf8)
pieces_of_characters (c ∷ cs) are =
    let parts = and_parts (scalar c) (all_scalars cs) are in
    by (is_separator c) refl (pieces_of_characters cs parts.1) (some_piece (encode_utf8_all cs))
    parts.0
  where
    by : (t : Bool) → is_separator c ≡ t → All IsUtf8 (pieces (encode_utf8_all cs)) →
        (p : (piece : List ℕ) × (later : List (List ℕ))
        × (pieces (encode_utf8_all cs) ≡ piece ∷ later)) → scalar c ≡ true →
        All IsUtf8 (pieces (encode_utf8 c ++ encode_utf8_all cs))
    by true e all p is =
        let alone = encode_ascii c (separator_ascii c e) in
        subst (λ (l : List (List ℕ)). All IsUtf8 l)
        (sym (ap (λ (l : List ℕ). pieces (l ++ encode_utf8_all cs)) alone
        ∙ ap (λ t. cond t ([] ∷ pieces (encode_utf8_all cs))
        (onto_first c (pieces (encode_utf8_all cs)))) e))
        (All-cons IsUtf8 [] (pieces (encode_utf8_all cs)) IsUtf8-nil all)
    by false e all p is =
        let cut : All IsUtf8 (p.0 ∷ p.1) = subst (λ (l : List (List ℕ)). All IsUtf8 l) p.2 all in
        subst (λ (l : List (List ℕ)). All IsUtf8 l)
        (sym (first_longer (encode_utf8 c) (no_separator_in c e) (encode_utf8_all cs) p.0 p.1 p.2))
        (All-cons IsUtf8 (encode_utf8 c ++ p.0) p.1
        (IsUtf8-append (encode_utf8 c) p.0 (IsUtf8-encode c is)
        (All-head IsUtf8 p.0 p.1 cut)) (All-tail IsUtf8 p.0 p.1 cut))

pub pieces_utf8 : (text : List ℕ) → IsUtf8 text → All IsUtf8 (pieces text)
pieces_utf8 text utf8 =
    subst (λ (t : List ℕ). All IsUtf8 (pieces t)) utf8.1.1 (pieces_of_characters utf8.0 utf8.1.0)

-- so the pieces of the bytes are those of the characters.
map_onto : (c : ℕ) (piece first : List ℕ) (later : List (List ℕ)) (rest : List (List ℕ)) →
    chars piece ∷ map chars later ≡ rest → chars first ≡ c ∷ chars piece →
    chars first ∷ map chars later ≡ onto_first c rest
map_onto c piece first later rest is longer =
    ap (λ (t : List ℕ). t ∷ map chars later) longer ∙ ap (λ ts. onto_first c ts) is

characters_of_pieces : (cs : List ℕ) → all_scalars cs ≡ true →
    map chars (pieces (encode_utf8_all cs)) ≡ slice_split is_separator cs
characters_of_pieces [] are = ap (λ (t : List ℕ). t ∷ []) chars-nil
characters_of_pieces (c ∷ cs) are =
    let parts = and_parts (scalar c) (all_scalars cs) are in
    by (is_separator c) refl (characters_of_pieces cs parts.1) (some_piece (encode_utf8_all cs))
    parts.0 (pieces_of_characters cs parts.1)
  where
    by : (t : Bool) → is_separator c ≡ t →
        map chars (pieces (encode_utf8_all cs)) ≡ slice_split is_separator cs →
        (p : (piece : List ℕ) × (later : List (List ℕ))
        × (pieces (encode_utf8_all cs) ≡ piece ∷ later)) → scalar c ≡ true →
        All IsUtf8 (pieces (encode_utf8_all cs)) →
        map chars (pieces (encode_utf8 c ++ encode_utf8_all cs))
        ≡ cond (is_separator c) ([] ∷ slice_split is_separator cs)
        (onto_first c (slice_split is_separator cs))
    by true e so_far p is all =
        ap (λ (l : List ℕ). map chars (pieces (l ++ encode_utf8_all cs)))
        (encode_ascii c (separator_ascii c e))
        ∙ ap (λ t. map chars (cond t ([] ∷ pieces (encode_utf8_all cs))
        (onto_first c (pieces (encode_utf8_all cs))))) e
        ∙ ap (λ (t : List ℕ). t ∷ map chars (pieces (encode_utf8_all cs))) chars-nil
        ∙ ap (λ ts. [] ∷ ts) so_far
        ∙ sym (ap (λ t. cond t ([] ∷ slice_split is_separator cs)
        (onto_first c (slice_split is_separator cs))) e)
    by false e so_far p is all =
        let cut : All IsUtf8 (p.0 ∷ p.1) = subst (λ (l : List (List ℕ)). All IsUtf8 l) p.2 all in
        let utf8 = IsUtf8-append (encode_utf8 c) p.0 (IsUtf8-encode c is)
        (All-head IsUtf8 p.0 p.1 cut) in
        ap (map chars) (first_longer (encode_utf8 c) (no_separator_in c e) (encode_utf8_all cs) p.0
        p.1 p.2)
        ∙ map_onto c p.0 (encode_utf8 c ++ p.0) p.1 (slice_split is_separator cs)
        (sym (ap (map chars) p.2) ∙ so_far) (chars_past_char (encode_utf8 c ++ p.0) p.0 c utf8 refl)
        ∙ sym (ap (λ t. cond t ([] ∷ slice_split is_separator cs)
        (onto_first c (slice_split is_separator cs))) e)

pub pieces_by_characters : (text : List ℕ) → IsUtf8 text →
    map chars (pieces text) ≡ slice_split is_separator (chars text)
pieces_by_characters text utf8 =
    ap (λ (t : List ℕ). map chars (pieces t)) (sym (encodes-chars text utf8))
    ∙ characters_of_pieces (chars text) (scalars-chars text utf8)

-- and so are its separators
separators_of_characters : (cs : List ℕ) → separators (encode_utf8_all cs) ≡ filter is_separator cs
separators_of_characters [] = refl
separators_of_characters (c ∷ cs) = by (is_separator c) refl (separators_of_characters cs)
  where
    by : (t : Bool) → is_separator c ≡ t →
        separators (encode_utf8_all cs) ≡ filter is_separator cs →
        separators (encode_utf8 c ++ encode_utf8_all cs)
        ≡ cond (is_separator c) (c ∷ filter is_separator cs) (filter is_separator cs)
    by true e so_far =
        ap (λ (l : List ℕ). separators (l ++ encode_utf8_all cs))
        (encode_ascii c (separator_ascii c e))
        ∙ ap (λ t. cond t (c ∷ separators (encode_utf8_all cs)) (separators (encode_utf8_all cs))) e
        ∙ ap (λ (l : List ℕ). c ∷ l) so_far
        ∙ sym (ap (λ t. cond t (c ∷ filter is_separator cs) (filter is_separator cs)) e)
    by false e so_far =
        filter-append is_separator (encode_utf8 c) (encode_utf8_all cs)
        ∙ ap (λ (l : List ℕ). l ++ separators (encode_utf8_all cs))
        (separators_none (encode_utf8 c) (no_separator_in c e))
        ∙ so_far
        ∙ sym (ap (λ t. cond t (c ∷ filter is_separator cs) (filter is_separator cs)) e)

pub separators_by_characters : (text : List ℕ) → IsUtf8 text →
    separators text ≡ filter is_separator (chars text)
separators_by_characters text utf8 =
    ap separators (sym (encodes-chars text utf8)) ∙ separators_of_characters (chars text)
