-- The lemma that pairs make of a form: it has no more bytes than the form and what they add, and it
-- is sound where these are.
use Rattle.std.proofs.Common.{arith, ◌≡◌, ℕ, ◌+◌, ◌-◌, ◌≤◌, List, [], ◌∷◌, ◌++◌, Bool, true, false, cond, refl, sym, ◌∙◌, ap, subst, length, length-append, take, drop}
use Rattle.std.specs.Prelude.{All, sum_by}
use Rattle.std.specs.List.{list_any, onto_first}
use Rattle.std.specs.Str.{IsUtf8, chars, encode_utf8_all}
use Rattle.std.proofs.lemmas.Bool.{or_parts}
use Rattle.std.proofs.lemmas.List.{take-append-drop}
use Rattle.std.proofs.lemmas.List.Elements.{All-nil, All-cons, All-head, All-tail}
use Rattle.std.proofs.lemmas.List.Sums.{sum_by-cons}
use Rattle.std.proofs.lemmas.Str.{encodes-append, encodes-chars}
use Rattle.ux_dela.specs.Sound.{is_feed, HasNoFeed, IsSound, IsSoundText}
use Rattle.ux_dela.specs.declared.entry.Entry.{Entry}
use Rattle.ux_dela.proofs.SoundLemmas.{no_feed-append, no_feed-front}
use Rattle.ux_image.specs.Codes.{all_changed, behind_chars, changed, front_chars, made_of, made_of_pieces, or_form, rebuilt_lemma, Rebuilds}
use Rattle.ux_image.specs.Pieces.{is_separator, joined, pieces, separators}
use Rattle.ux_image.specs.declared.code.Code.{Code}
use Rattle.ux_image.specs.declared.code.Pair.{Pair}
use Rattle.ux_image.proofs.Utf8Lemmas.{pieces_utf8, some_piece}
use Rattle.ux_image_lists.specs.Lists.{IsText}
use Rattle.ux_image_content.specs.Walking.{added_by, IsGood}

abbrev long : List (List ℕ) → ℕ
long texts = sum_by (λ (t : List ℕ). length t) texts

abbrev adds : Pair → ℕ
adds pair = length pair.added

-- a text is its first characters and those behind
pub front_and_rest : (n : ℕ) (text : List ℕ) → IsUtf8 text →
    front_chars n text ++ encode_utf8_all (behind_chars n text) ≡ text
front_and_rest n text utf8 =
    sym (encodes-append (take n (chars text)) (drop n (chars text)))
    ∙ ap encode_utf8_all (take-append-drop n (chars text))
    ∙ encodes-chars text utf8

-- LENGTHS

changed_short : (pair : Pair) (piece : List ℕ) → IsUtf8 piece →
    length (changed pair piece) ≤ length piece + length pair.added
changed_short pair piece utf8 =
    let n = length (chars piece) - pair.taken in
    let whole = ap (length {A = ℕ}) (front_and_rest n piece utf8) in
    let parts = length-append (front_chars n piece) (encode_utf8_all (behind_chars n piece)) in
    let made = length-append (front_chars n piece) pair.added in
    omega (arith, whole, parts, made)

all_changed_short : (pairs : List Pair) (texts : List (List ℕ)) → All IsUtf8 texts →
    long (all_changed pairs texts) ≤ long texts + added_by pairs
all_changed_short [] texts utf8 = omega arith
all_changed_short (p ∷ pairs) [] utf8 = omega arith
all_changed_short (p ∷ pairs) (t ∷ texts) utf8 =
    let here = changed_short p t (All-head IsUtf8 t texts utf8) in
    let more = all_changed_short pairs texts (All-tail IsUtf8 t texts utf8) in
    let made = sum_by-cons (λ (u : List ℕ). length u) (changed p t) (all_changed pairs texts) in
    let old = sum_by-cons (λ (u : List ℕ). length u) t texts in
    let sum = sum_by-cons adds p pairs in
    omega (arith, here, more, made, old, sum)

joined_short : (texts : List (List ℕ)) (signs : List ℕ) →
    length (joined texts signs) ≤ long texts + length signs
joined_short [] signs = omega arith
joined_short (t ∷ texts) [] =
    let sum = sum_by-cons (λ (u : List ℕ). length u) t texts in omega (arith, sum)
joined_short (t ∷ texts) (sign ∷ signs) =
    let more = joined_short texts signs in
    let sum = sum_by-cons (λ (u : List ℕ). length u) t texts in
    let parts = length-append t (sign ∷ joined texts signs) in
    omega (arith, more, sum, parts)

-- each byte of a text is one of a piece, or a separator
long_onto : (b : ℕ) (ps : List (List ℕ)) (piece : List ℕ) (rest : List (List ℕ)) →
    ps ≡ piece ∷ rest → long (onto_first b ps) ≡ long ps + 1
long_onto b ps piece rest is =
    let old = sum_by-cons (λ (u : List ℕ). length u) piece rest in
    let new = sum_by-cons (λ (u : List ℕ). length u) (b ∷ piece) rest in
    let one : long (onto_first b (piece ∷ rest)) ≡ long (piece ∷ rest) + 1 =
    omega (arith, old, new) in
    subst (λ (l : List (List ℕ)). long (onto_first b l) ≡ long l + 1) (sym is) one

pieces_whole : (text : List ℕ) → long (pieces text) + length (separators text) ≡ length text
pieces_whole [] = refl
pieces_whole (b ∷ text) =
    by (is_separator b) refl (pieces_whole text) (some_piece text)
  where
    by : (t : Bool) → is_separator b ≡ t →
        long (pieces text) + length (separators text) ≡ length text →
        ((piece : List ℕ) × (rest : List (List ℕ)) × (pieces text ≡ piece ∷ rest)) →
        long (cond (is_separator b) ([] ∷ pieces text) (onto_first b (pieces text)))
        + length (cond (is_separator b) (b ∷ separators text) (separators text))
        ≡ length (b ∷ text)
    by true e whole p =
        let none = sum_by-cons (λ (u : List ℕ). length u) [] (pieces text) in
        ap (λ t. long (cond t ([] ∷ pieces text) (onto_first b (pieces text)))
        + length (cond t (b ∷ separators text) (separators text))) e
        ∙ omega (arith, none, whole)
    by false e whole p =
        let one = long_onto b (pieces text) p.0 p.1 p.2 in
        ap (λ t. long (cond t ([] ∷ pieces text) (onto_first b (pieces text)))
        + length (cond t (b ∷ separators text) (separators text))) e
        ∙ omega (arith, one, whole)

pieces_made_short : (pairs : List Pair) (form : List ℕ) → IsUtf8 form →
    length (made_of_pieces pairs form) ≤ length form + added_by pairs
pieces_made_short pairs form utf8 =
    let texts = all_changed pairs (pieces form) in
    let made = joined_short texts (separators form) in
    let changes = all_changed_short pairs (pieces form) (pieces_utf8 form utf8) in
    let whole = pieces_whole form in
    omega (arith, made, changes, whole)

made_short : (pairs : List Pair) (form : List ℕ) → IsUtf8 form →
    length (made_of pairs form) ≤ length form + added_by pairs
made_short [] form utf8 = pieces_made_short [] form utf8
made_short (pair ∷ []) form utf8 =
    let short = changed_short pair form utf8 in
    let sum = sum_by-cons adds pair [] in
    omega (arith, short, sum)
made_short (pair ∷ (next ∷ pairs)) form utf8 =
    pieces_made_short (pair ∷ (next ∷ pairs)) form utf8

-- so the lemma is as long at most as the form and what is added
pub lemma_short : (pairs : List Pair) (form : List ℕ) → IsUtf8 form →
    length (rebuilt_lemma pairs form) ≤ length form + added_by pairs
lemma_short pairs form utf8 = by (made_of pairs form) (made_short pairs form utf8)
  where
    by : (made : List ℕ) → length made ≤ length form + added_by pairs →
        length (or_form made form) ≤ length form + added_by pairs
    by [] short = omega arith
    by (b ∷ made) short = short

-- LINE FEEDS

changed_no_feed : (pair : Pair) (piece : List ℕ) → IsUtf8 piece → HasNoFeed piece →
    IsText pair.added → HasNoFeed (changed pair piece)
changed_no_feed pair piece utf8 none added =
    let n = length (chars piece) - pair.taken in
    no_feed-append (front_chars n piece) pair.added
    (no_feed-front (front_chars n piece) (encode_utf8_all (behind_chars n piece))
    (subst HasNoFeed (sym (front_and_rest n piece utf8)) none)) added.1

all_changed_no_feed : (pairs : List Pair) (texts : List (List ℕ)) → All IsUtf8 texts →
    All HasNoFeed texts → All (λ (p : Pair). IsText p.added) pairs →
    All HasNoFeed (all_changed pairs texts)
all_changed_no_feed [] texts utf8 none added = none
all_changed_no_feed (p ∷ pairs) [] utf8 none added = All-nil HasNoFeed
all_changed_no_feed (p ∷ pairs) (t ∷ texts) utf8 none added =
    let IsAdded : Pair → Type 0 = λ p. IsText p.added in
    All-cons HasNoFeed (changed p t) (all_changed pairs texts)
    (changed_no_feed p t (All-head IsUtf8 t texts utf8) (All-head HasNoFeed t texts none)
    (All-head IsAdded p pairs added))
    (all_changed_no_feed pairs texts (All-tail IsUtf8 t texts utf8) (All-tail HasNoFeed t texts none)
    (All-tail IsAdded p pairs added))

-- one byte more in front
no_feed-cons : (b : ℕ) (text : List ℕ) → is_feed b ≡ false → HasNoFeed text → HasNoFeed (b ∷ text)
no_feed-cons b text other none = no_feed-append (b ∷ []) text (rw other refl) none

joined_no_feed : (texts : List (List ℕ)) (signs : List ℕ) → All HasNoFeed texts →
    HasNoFeed signs → HasNoFeed (joined texts signs)
joined_no_feed [] signs none other = refl
joined_no_feed (t ∷ texts) [] none other = All-head HasNoFeed t texts none
joined_no_feed (t ∷ texts) (sign ∷ signs) none other =
    let parts = or_parts (is_feed sign) (list_any is_feed signs) other in
    no_feed-append t (sign ∷ joined texts signs) (All-head HasNoFeed t texts none)
    (no_feed-cons sign (joined texts signs) parts.0
    (joined_no_feed texts signs (All-tail HasNoFeed t texts none) parts.1))

pub pieces_no_feed : (text : List ℕ) → HasNoFeed text →
    All HasNoFeed (pieces text) × HasNoFeed (separators text)
pieces_no_feed [] none = (All-cons HasNoFeed [] [] refl (All-nil HasNoFeed), refl)
pieces_no_feed (b ∷ text) none =
    let parts = or_parts (is_feed b) (list_any is_feed text) none in
    let more = pieces_no_feed text parts.1 in
    by (is_separator b) refl parts.0 more.0 more.1 (some_piece text)
  where
    onto : (p : List ℕ) (rest : List (List ℕ)) → is_feed b ≡ false → All HasNoFeed (p ∷ rest) →
        All HasNoFeed ((b ∷ p) ∷ rest)
    onto p rest other all =
        All-cons HasNoFeed (b ∷ p) rest (no_feed-cons b p other (All-head HasNoFeed p rest all))
        (All-tail HasNoFeed p rest all)

    by : (t : Bool) → is_separator b ≡ t → is_feed b ≡ false → All HasNoFeed (pieces text) →
        HasNoFeed (separators text) →
        ((piece : List ℕ) × (rest : List (List ℕ)) × (pieces text ≡ piece ∷ rest)) →
        All HasNoFeed (cond (is_separator b) ([] ∷ pieces text) (onto_first b (pieces text)))
        × HasNoFeed (cond (is_separator b) (b ∷ separators text) (separators text))
    by true e other all signs p =
        subst (λ t. All HasNoFeed (cond t ([] ∷ pieces text) (onto_first b (pieces text)))
        × HasNoFeed (cond t (b ∷ separators text) (separators text))) (sym e)
        (All-cons HasNoFeed [] (pieces text) refl all, no_feed-cons b (separators text) other signs)
    by false e other all signs p =
        subst (λ t. All HasNoFeed (cond t ([] ∷ pieces text) (onto_first b (pieces text)))
        × HasNoFeed (cond t (b ∷ separators text) (separators text))) (sym e) (
          subst (λ (l : List (List ℕ)). All HasNoFeed (onto_first b l)) (sym p.2)
              (onto p.0 p.1 other (subst (All HasNoFeed) p.2 all)),
          signs,
        )

pieces_made_no_feed : (pairs : List Pair) (form : List ℕ) → IsUtf8 form → HasNoFeed form →
    All (λ (p : Pair). IsText p.added) pairs → HasNoFeed (made_of_pieces pairs form)
pieces_made_no_feed pairs form utf8 none added =
    let parts = pieces_no_feed form none in
    joined_no_feed (all_changed pairs (pieces form)) (separators form)
    (all_changed_no_feed pairs (pieces form) (pieces_utf8 form utf8) parts.0 added) parts.1

made_no_feed : (pairs : List Pair) (form : List ℕ) → IsUtf8 form → HasNoFeed form →
    All (λ (p : Pair). IsText p.added) pairs → HasNoFeed (made_of pairs form)
made_no_feed [] form utf8 none added = pieces_made_no_feed [] form utf8 none added
made_no_feed (pair ∷ []) form utf8 none added =
    changed_no_feed pair form utf8 none
    (All-head (λ (p : Pair). IsText p.added) pair [] added)
made_no_feed (pair ∷ (next ∷ pairs)) form utf8 none added =
    pieces_made_no_feed (pair ∷ (next ∷ pairs)) form utf8 none added

-- so the lemma is sound
lemma_sound : (pairs : List Pair) (form : List ℕ) → IsUtf8 form → IsSoundText form →
    All (λ (p : Pair). IsText p.added) pairs → IsSoundText (rebuilt_lemma pairs form)
lemma_sound pairs form utf8 sound added =
    by (made_of pairs form) (made_no_feed pairs form utf8 sound.no_feed added)
  where
    by : (made : List ℕ) → HasNoFeed made → IsSoundText (or_form made form)
    by [] none = sound
    by (b ∷ made) none = record { some = λ e. cc; no_feed = none }

-- and the entry, whose codes are printed
pub rebuilt_sound : (form : List ℕ) (code : Code) (entry : Entry) → Rebuilds form code entry →
    IsUtf8 form → IsSoundText form → IsGood code → IsSound entry
rebuilt_sound form code entry makes utf8 sound good = record {
  form = subst IsSoundText (sym makes.is_form) sound;
  lemma = subst IsSoundText (sym makes.is_lemma)
      (lemma_sound code.pairs form utf8 sound good.texts);
  codes = makes.are_codes.sound;
}
