-- The code of an entry makes this entry of its form.
use Rattle.std.proofs.Common.{arith, ◌≡◌, ℕ, ◌+◌, ◌-◌, suc, List, [], ◌∷◌, ◌++◌, Bool, true, false, cond, refl, sym, ◌∙◌, ap, length, map, zip, take, drop, nat_eq}
use Rattle.std.specs.Prelude.{All}
use Rattle.std.specs.List.{common_prefix_len, onto_first}
use Rattle.std.specs.Str.{IsUtf8, bytes_eq, chars, encode_utf8_all}
use Rattle.std.proofs.lemmas.Bool.Decides.{Decides-eqb}
use Rattle.std.proofs.lemmas.Slice.Eq.{bytes_eq-Decides}
use Rattle.std.proofs.lemmas.List.{take-append-drop, length-drop, length-map}
use Rattle.std.proofs.lemmas.List.Elements.{All-head, All-tail}
use Rattle.std.proofs.lemmas.List.Splits.{length-slice_split}
use Rattle.std.proofs.lemmas.List.Sums.{common_prefix_len-le, length-filter}
use Rattle.std.proofs.lemmas.Str.{encodes-append, encodes-chars}
use Rattle.ux_dela.specs.Sound.{IsSound}
use Rattle.ux_dela.specs.declared.entry.Entry.{Entry}
use Rattle.ux_image.specs.Pieces.{is_separator, pieces, separators, joined}
use Rattle.ux_image.specs.Codes.{shared_len, pair_between, pairs_of_pieces, pairs_between, entry_code, changed, all_changed, made_of, made_of_pieces, or_form, Rebuilds}
use Rattle.ux_image.proofs.CutLemmas.{none_from_separators}
use Rattle.ux_image.proofs.MadeLemmas.{made_one, made_several, made_none}
use Rattle.ux_image.proofs.Utf8Lemmas.{some_piece, pieces_utf8}

-- two lists have the same front, as far as they agree
common_front : (cs ds : List ℕ) →
    take (common_prefix_len nat_eq cs ds) cs ≡ take (common_prefix_len nat_eq cs ds) ds
common_front [] ds = refl
common_front (c ∷ cs) [] = refl
common_front (c ∷ cs) (d ∷ ds) = by (nat_eq c d) refl (common_front cs ds)
  where
    by : (t : Bool) → nat_eq c d ≡ t →
        take (common_prefix_len nat_eq cs ds) cs ≡ take (common_prefix_len nat_eq cs ds) ds →
        take (cond (nat_eq c d) (1 + common_prefix_len nat_eq cs ds) 0) (c ∷ cs)
        ≡ take (cond (nat_eq c d) (1 + common_prefix_len nat_eq cs ds) 0) (d ∷ ds)
    by true e same =
        let n = common_prefix_len nat_eq cs ds in
        let more : cond (nat_eq c d) (1 + n) 0 ≡ suc n =
        ap (λ t. cond t (1 + n) 0) e ∙ omega arith in
        ap (λ m. take m (c ∷ cs)) more
        ∙ ap (λ (t : List ℕ). c ∷ t) same
        ∙ ap (λ x. x ∷ take n ds) ((Decides-eqb c d).0 e)
        ∙ sym (ap (λ m. take m (d ∷ ds)) more)
    by false e same =
        let n = common_prefix_len nat_eq cs ds in
        let none : cond (nat_eq c d) (1 + n) 0 ≡ 0 = ap (λ t. cond t (1 + n) 0) e in
        ap (λ m. take m (c ∷ cs)) none ∙ sym (ap (λ m. take m (d ∷ ds)) none)

-- the pair of two parts makes the second of the first
changed_pair : (form lemma : List ℕ) → IsUtf8 lemma →
    changed (pair_between form lemma) form ≡ lemma
changed_pair form lemma utf8 =
    let n = shared_len form lemma in
    let few = common_prefix_len-le nat_eq (chars form) (chars lemma) in
    let kept : length (chars form) - length (drop n (chars form)) ≡ n =
    omega (arith, few.0, length-drop n (chars form)) in
    let added = encode_utf8_all (drop n (chars lemma)) in
    ap (λ m. encode_utf8_all (take m (chars form)) ++ added) kept
    ∙ ap (λ (cs : List ℕ). encode_utf8_all cs ++ added) (common_front (chars form) (chars lemma))
    ∙ sym (encodes-append (take n (chars lemma)) (drop n (chars lemma)))
    ∙ ap encode_utf8_all (take-append-drop n (chars lemma))
    ∙ encodes-chars lemma utf8

-- the pairs of the pieces make the second pieces of the first
changed_pieces : (ps qs : List (List ℕ)) → length ps ≡ length qs → All IsUtf8 qs →
    all_changed (map (λ p. pair_between p.0 p.1) (zip ps qs)) ps ≡ qs
changed_pieces [] [] same utf8 = refl
changed_pieces [] (q ∷ qs) same utf8 = absurd (omega (arith, same))
changed_pieces (p ∷ ps) [] same utf8 = absurd (omega (arith, same))
changed_pieces (p ∷ ps) (q ∷ qs) same utf8 =
    ap (λ t. t ∷ all_changed (map (λ r. pair_between r.0 r.1) (zip ps qs)) ps)
    (changed_pair p q (All-head IsUtf8 q qs utf8))
    ∙ ap (λ ts. q ∷ ts)
    (changed_pieces ps qs (omega (arith, same)) (All-tail IsUtf8 q qs utf8))

-- pieces and separators give the text again
joined_onto : (b : ℕ) (piece : List ℕ) (later : List (List ℕ)) (signs : List ℕ) →
    joined (onto_first b (piece ∷ later)) signs ≡ b ∷ joined (piece ∷ later) signs
joined_onto b piece later [] = refl
joined_onto b piece later (sign ∷ signs) = refl

joined_again : (text : List ℕ) → joined (pieces text) (separators text) ≡ text
joined_again [] = refl
joined_again (b ∷ text) = by (is_separator b) refl (joined_again text) (some_piece text)
  where
    by : (t : Bool) → is_separator b ≡ t → joined (pieces text) (separators text) ≡ text →
        ((piece : List ℕ) × (later : List (List ℕ)) × (pieces text ≡ piece ∷ later)) →
        joined (cond (is_separator b) ([] ∷ pieces text) (onto_first b (pieces text)))
        (cond (is_separator b) (b ∷ separators text) (separators text)) ≡ b ∷ text
    by true e again p =
        ap (λ t. joined (cond t ([] ∷ pieces text) (onto_first b (pieces text)))
        (cond t (b ∷ separators text) (separators text))) e
        ∙ ap (λ (t : List ℕ). b ∷ t) again
    by false e again p =
        ap (λ t. joined (cond t ([] ∷ pieces text) (onto_first b (pieces text)))
        (cond t (b ∷ separators text) (separators text))) e
        ∙ ap (λ ps. joined (onto_first b ps) (separators text)) p.2
        ∙ joined_onto b p.0 p.1 (separators text)
        ∙ ap (λ ps. b ∷ joined ps (separators text)) (sym p.2)
        ∙ ap (λ (t : List ℕ). b ∷ t) again

-- a text has one piece more than separators
pieces_count : (text : List ℕ) → length (pieces text) ≡ length (separators text) + 1
pieces_count text =
    omega (arith, length-slice_split is_separator text, length-filter is_separator text)

length_zip : (ps qs : List (List ℕ)) → length ps ≡ length qs → length (zip ps qs) ≡ length ps
length_zip [] qs same = refl
length_zip (p ∷ ps) [] same = absurd (omega (arith, same))
length_zip (p ∷ ps) (q ∷ qs) same = ap suc (length_zip ps qs (omega (arith, same)))

module _ (form lemma : List ℕ) (utf8 : IsUtf8 lemma) where
  -- where the separators agree, the pairs of the pieces make the lemma of the form
  module _ (same : separators form ≡ separators lemma) where
    counts : length (pieces form) ≡ length (pieces lemma)
    counts = pieces_count form ∙ ap (λ (s : List ℕ). length s + 1) same ∙ sym (pieces_count lemma)

    made_again : made_of_pieces (pairs_of_pieces form lemma) form ≡ lemma
    made_again =
        ap (λ ts. joined ts (separators form))
        (changed_pieces (pieces form) (pieces lemma) counts (pieces_utf8 lemma utf8))
        ∙ ap (λ (s : List ℕ). joined (pieces lemma) s) same
        ∙ joined_again lemma

    pairs_count : length (pairs_of_pieces form lemma) ≡ length (separators form) + 1
    pairs_count =
        length-map (zip (pieces form) (pieces lemma)) (λ p. pair_between p.0 p.1)
        ∙ length_zip (pieces form) (pieces lemma) counts
        ∙ pieces_count form

    -- a form of one piece is this piece
    whole_again : made_of (pairs_of_pieces form lemma) form ≡ lemma
    whole_again = by (separators form) refl
      where
        by : (signs : List ℕ) → separators form ≡ signs →
            made_of (pairs_of_pieces form lemma) form ≡ lemma
        by [] is =
            made_one (pairs_of_pieces form lemma) form
            (pairs_count ∙ ap (λ (s : List ℕ). length s + 1) is)
            ∙ sym (made_none (pairs_of_pieces form lemma) form (none_from_separators form is))
            ∙ made_again
        by (sign ∷ signs) is =
            made_several (pairs_of_pieces form lemma) form
            (λ one. omega (arith, one, pairs_count, ap (length {A = ℕ}) is))
            ∙ made_again

  -- and else the one pair does
  pub made_lemma : made_of (pairs_between form lemma) form ≡ lemma
  made_lemma = by (bytes_eq (separators form) (separators lemma)) refl
    where
      by : (t : Bool) → bytes_eq (separators form) (separators lemma) ≡ t →
          made_of (pairs_between form lemma) form ≡ lemma
      by true e =
          ap (λ t. made_of
          (cond t (pairs_of_pieces form lemma) (pair_between form lemma ∷ [])) form) e
          ∙ whole_again ((bytes_eq-Decides (separators form) (separators lemma)).0 e)
      by false e =
          ap (λ t. made_of
          (cond t (pairs_of_pieces form lemma) (pair_between form lemma ∷ [])) form) e
          ∙ changed_pair form lemma utf8

or_form_some : (made form : List ℕ) → (made ≡ [] → ⊥) → or_form made form ≡ made
or_form_some [] form some = absurd (some refl)
or_form_some (b ∷ made) form some = refl

-- the code of a sound entry makes the entry of its form
pub rebuilds_again : (entry : Entry) → IsSound entry → IsUtf8 entry.lemma →
    Rebuilds entry.form (entry_code entry) entry
rebuilds_again entry sound utf8 = record {
  is_form = refl;
  is_lemma =
      let made = made_lemma entry.form entry.lemma utf8 in
      sym (ap (λ (t : List ℕ). or_form t entry.form) made
      ∙ or_form_some entry.lemma entry.form sound.lemma.some);
  are_codes = record { printed = refl; sound = sound.codes };
}
