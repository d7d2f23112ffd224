-- A text has one list of tokens at most.
use Rattle.std.proofs.Common.{arith, ◌≡◌, ◌≢◌, ◌⊎◌, ℕ, suc, ◌+◌, List, [], ◌∷◌, ◌++◌, refl, sym, ◌∙◌, ap, subst, append_assoc, get_or, drop, length, length-append, inl, inr}
use Rattle.std.specs.Prelude.{All, Some, true, false, codes, slice_get, encode_utf8, encode_utf8_all}
use Rattle.std.proofs.lemmas.Str.{encode_same, encode_ascii, length-encode, len_utf8_bounds, chars-encodes}
use Rattle.std.specs.Str.{chars}
use Rattle.std.proofs.lemmas.List.{append_cancel_left}
use Rattle.std.proofs.lemmas.Bool.{false≢true, both_ways, cases_Bool}
use Rattle.ux_alphabet.specs.Letters.{Letters, IsLetter}
use Rattle.ux_dela.specs.Signs.{is_brace}
use Rattle.ux_dela.specs.Written.{IsPart}
use Rattle.ux_dela.specs.Sound.{HasNoFeed}
use Rattle.ux_dela.specs.Reading.{characters}
use Rattle.ux_dela.specs.declared.entry.Entry.{Entry}
use Rattle.ux_tokens.specs.Tails.{before_form, is_tail}
use Rattle.ux_tokens.specs.declared.kind.Kind.{Kind}
use Rattle.ux_tokens.specs.declared.kind.Kind.TheVariants.{Word, Space, Other, Sentence, Stop, Tag}
use Rattle.ux_tokens.specs.Tokens.{Token, SPACE, OPENING_BRACE, CLOSING_BRACE, SENTENCE, STOP, BeginsWithMark, IsTag, IsPlain, IsTokenText, AreTokens, ArePlainTokens, joined}
use Rattle.ux_tokens.proofs.MarksLemmas.{brace_is_none}
use Rattle.ux_tokens.proofs.BodyLemmas.{body_tail}
use Rattle.ux_tokens.proofs.RegionLemmas.{body_part, body_same}

-- a tag and what stands after it, from its body on
tag_whole : (tag rest body : List ℕ) → tag ≡ OPENING_BRACE ∷ (body ++ CLOSING_BRACE ∷ []) →
    tag ++ rest ≡ OPENING_BRACE ∷ (body ++ CLOSING_BRACE ∷ rest)
tag_whole tag rest body is =
    ap (λ (l : List ℕ). l ++ rest) is
    ∙ ap (λ (l : List ℕ). OPENING_BRACE ∷ l) (append_assoc body (CLOSING_BRACE ∷ []) rest)

-- what isn't a body is that of no tag
no_comma : (word : List ℕ) → IsPart is_brace (characters word) → HasNoFeed word →
    is_tail before_form (characters word) ≡ false → (tag rest behind : List ℕ) (entry : Entry) →
    IsTag tag entry →
    OPENING_BRACE ∷ (word ++ CLOSING_BRACE ∷ behind) ≡ tag ++ rest → ⊥
no_comma word part feed none tag rest behind entry (body, is, tagged) e =
    let parts : word ++ CLOSING_BRACE ∷ behind ≡ body ++ CLOSING_BRACE ∷ rest =
    ap (drop 1) (e ∙ tag_whole tag rest body is) in
    let same = body_same word body behind rest part feed (body_part body entry tagged)
    tagged.no_feed parts in
    both_ways (is_tail before_form (characters word)) none
    (ap (λ (l : List ℕ). is_tail before_form (characters l)) same.0
    ∙ body_tail body entry tagged)

module _ (alphabet : Letters) where
  -- a space is no letter
  space_is_none : IsLetter alphabet SPACE → ⊥
  space_is_none (inl upper) = false≢true (sym upper.0)
  space_is_none (inr lower) = false≢true (sym lower.0)

  -- no letter stands at the front
  abbrev pub BeginsWithNone : List ℕ → Type 0
  BeginsWithNone text =
      (c : ℕ) (rest : List ℕ) → text ≡ encode_utf8 c ++ rest → IsLetter alphabet c → ⊥

  some_byte : (c : ℕ) (rest : List ℕ) → let none : List ℕ = [] in none ≡ encode_utf8 c ++ rest → ⊥
  some_byte c rest e = omega (
    arith,
    simp length-append at (ap length e),
    length-encode c,
    (len_utf8_bounds c).0,
  )

  brace_text : (rest : List ℕ) → OPENING_BRACE ∷ rest ≡ encode_utf8 OPENING_BRACE ++ rest
  brace_text rest = ap (λ x. x ++ rest) (sym (encode_ascii OPENING_BRACE (omega arith)))

  space_text : (rest : List ℕ) → SPACE ∷ rest ≡ encode_utf8 SPACE ++ rest
  space_text rest = ap (λ x. x ++ rest) (sym (encode_ascii SPACE (omega arith)))

  -- the texts of two lists of letters, each with no letter after it
  letters_same : (cs ds r t : List ℕ) → All (IsLetter alphabet) cs → All (IsLetter alphabet) ds →
      BeginsWithNone r → BeginsWithNone t →
      encode_utf8_all cs ++ r ≡ encode_utf8_all ds ++ t → (cs ≡ ds) × (r ≡ t)
  letters_same [] [] r t a b n m e = (refl, e)
  letters_same [] (d ∷ ds) r t a b n m e = absurd
      (n d (encode_utf8_all ds ++ t) (e ∙ append_assoc (encode_utf8 d) (encode_utf8_all ds) t)
      (b 0 d (omega arith)))
  letters_same (c ∷ cs) [] r t a b n m e = absurd
      (m c (encode_utf8_all cs ++ r) (sym e ∙ append_assoc (encode_utf8 c) (encode_utf8_all cs) r)
      (a 0 c (omega arith)))
  letters_same (c ∷ cs) (d ∷ ds) r t a b n m e =
      let h = encode_same c d (encode_utf8_all cs ++ r) (encode_utf8_all ds ++ t)
      (sym (append_assoc (encode_utf8 c) (encode_utf8_all cs) r) ∙
      (e ∙ append_assoc (encode_utf8 d) (encode_utf8_all ds) t)) in
      let rest = letters_same cs ds r t (λ k x lt. a (suc k) x (omega arith))
      (λ k x lt. b (suc k) x (omega arith)) n m h.1 in
      (ap (λ x. x ∷ cs) h.0 ∙ ap (λ xs. d ∷ xs) rest.0, rest.1)

  -- the texts of two lists of one letter
  letter_same : (cs ds r t : List ℕ) → length cs ≡ 1 → length ds ≡ 1 →
      encode_utf8_all cs ++ r ≡ encode_utf8_all ds ++ t → (cs ≡ ds) × (r ≡ t)
  letter_same [] ds r t a b e = absurd (omega (arith, a))
  letter_same (c ∷ cs) [] r t a b e = absurd (omega (arith, b))
  letter_same (c ∷ c' ∷ cs) (d ∷ ds) r t a b e = absurd (omega (arith, a))
  letter_same (c ∷ []) (d ∷ d' ∷ ds) r t a b e = absurd (omega (arith, b))
  letter_same (c ∷ []) (d ∷ []) r t a b e =
      let h = encode_same c d r t
      (sym (append_assoc (encode_utf8 c) [] r) ∙ (e ∙ append_assoc (encode_utf8 d) [] t)) in
      (ap (λ x. x ∷ []) h.0, h.1)

  -- a word is the bytes of one or more letters, and of one where the alphabet is single
  pub record AreLetters (text letters : List ℕ) : Type 0 where
    pub bytes : text ≡ encode_utf8_all letters
    pub some : letters ≢ []
    pub each : All (IsLetter alphabet) letters
    pub one : alphabet.single ≡ true → length letters ≡ 1

  word_letters : (text : List ℕ) → IsTokenText alphabet Word text → (letters : List ℕ) × AreLetters
      text letters
  word_letters text is =
      let bytes = is.utf8 in
      let same : chars text ≡ bytes.0 =
      ap chars (sym bytes.1.1) ∙ chars-encodes bytes.0 bytes.1.0 in (
        bytes.0,
        record {
          bytes = sym bytes.1.1;
          some = λ none. is.some (sym bytes.1.1 ∙ ap encode_utf8_all none);
          each = subst (All (IsLetter alphabet)) same is.letters;
          one = λ single. sym (ap length same) ∙ is.one single;
        },
      )

  -- two words at the front of one text, of which neither is cut short
  words_same : (x y r t : List ℕ) → IsTokenText alphabet Word x → IsTokenText alphabet Word y →
      (alphabet.single ≡ false → BeginsWithNone r) →
      (alphabet.single ≡ false → BeginsWithNone t) → x ++ r ≡ y ++ t → (x ≡ y) × (r ≡ t)
  words_same x y r t a b n m e = (v.1.bytes ∙ (ap encode_utf8_all h.0 ∙ sym w.1.bytes), h.1)
    where
      v : (letters : List ℕ) × AreLetters x letters
      v = word_letters x a

      w : (letters : List ℕ) × AreLetters y letters
      w = word_letters y b

      bytes : encode_utf8_all v.0 ++ r ≡ encode_utf8_all w.0 ++ t
      bytes = ap (λ z. z ++ r) (sym v.1.bytes) ∙ (e ∙ ap (λ z. z ++ t) w.1.bytes)

      h : (v.0 ≡ w.0) × (r ≡ t)
      h = elim (cases_Bool alphabet.single) [
        | inl single ↦ letter_same v.0 w.0 r t (v.1.one single) (w.1.one single) bytes
        | inr runs ↦ letters_same v.0 w.0 r t v.1.each w.1.each (n runs) (m runs) bytes
      ]

  -- a list of letters begins with one
  begins_with_letter : (cs r : List ℕ) → cs ≢ [] → All (IsLetter alphabet) cs → BeginsWithNone
      (encode_utf8_all cs ++ r) → ⊥
  begins_with_letter [] r some all none = some refl
  begins_with_letter (c ∷ cs) r some all none =
      none c (encode_utf8_all cs ++ r) (append_assoc (encode_utf8 c) (encode_utf8_all cs) r)
      (all 0 c (omega arith))

  -- a brace is no letter, so none stands at the front
  behind_brace : (rest : List ℕ) → BeginsWithNone (OPENING_BRACE ∷ rest)
  behind_brace rest c more e letter =
      let h = encode_same OPENING_BRACE c rest more (sym (brace_text rest) ∙ e) in
      brace_is_none alphabet (subst (IsLetter alphabet) (sym h.0) letter)

  -- the front of a token that is no word
  front_is_none : (kind : Kind) (text r : List ℕ) → kind ≢ Word → IsTokenText alphabet kind text →
      BeginsWithNone (text ++ r)
  front_is_none Word text r other is = absurd (other refl)
  front_is_none Space text r other is = λ c rest e letter.
      let h = encode_same SPACE c r rest (sym (space_text r) ∙ (ap (λ x. x ++ r) (sym is) ∙ e)) in
      space_is_none (subst (IsLetter alphabet) (sym h.0) letter)
  front_is_none Other text r other is = λ c rest e letter.
      let h = encode_same is.0 c r rest (ap (λ x. x ++ r) (sym is.1) ∙ e) in
      is.2 (subst (IsLetter alphabet) (sym h.0) letter)
  front_is_none Sentence text r other is = λ c rest e letter.
      behind_brace (83 ∷ 125 ∷ r) c rest (ap (λ x. x ++ r) (sym is) ∙ e) letter
  front_is_none Stop text r other is = λ c rest e letter.
      behind_brace (83 ∷ 84 ∷ 79 ∷ 80 ∷ 125 ∷ r) c rest (ap (λ x. x ++ r) (sym is) ∙ e) letter
  front_is_none Tag text r other (entry, (body, is, tag)) = λ c rest e letter.
      behind_brace ((body ++ CLOSING_BRACE ∷ []) ++ r) c rest (ap (λ x. x ++ r) (sym is) ∙ e) letter

  -- no token is empty
  token_some : (kind : Kind) (text r : List ℕ) → IsTokenText alphabet kind text →
      let none : List ℕ = [] in none ≡ text ++ r → ⊥
  token_some Word text r is e = let v = word_letters text is in letters_some v.0 v.1.some
      (e ∙ ap (λ x. x ++ r) v.1.bytes)
    where
      letters_some : (cs : List ℕ) → cs ≢ [] → let none : List ℕ = [] in none ≡ encode_utf8_all cs
          ++ r → ⊥
      letters_some [] some e = some refl
      letters_some (c ∷ cs) some e = some_byte c (encode_utf8_all cs ++ r)
          (e ∙ append_assoc (encode_utf8 c) (encode_utf8_all cs) r)
  token_some Space text r is e = some_byte SPACE r (e ∙ (ap (λ x. x ++ r) is ∙ space_text r))
  token_some Other text r is e = some_byte is.0 r (e ∙ ap (λ x. x ++ r) is.1)
  token_some Sentence text r is e =
      let short = ap length (e ∙ ap (λ x. x ++ r) is) in absurd (omega (arith, short))
  token_some Stop text r is e =
      let short = ap length (e ∙ ap (λ x. x ++ r) is) in absurd (omega (arith, short))
  token_some Tag text r (entry, (body, is, tag)) e =
      let short = ap length (e ∙ ap (λ x. x ++ r) is) in absurd (omega (arith, short))

  -- a word and another token
  word_or_other : (l : Kind) (x y r t : List ℕ) → IsTokenText alphabet Word x → l ≢ Word →
      IsTokenText alphabet l y → x ++ r ≡ y ++ t → ⊥
  word_or_other l x y r t a other b e =
      let v = word_letters x a in
      begins_with_letter v.0 r v.1.some v.1.each
      (λ c rest e'. front_is_none l y t other b c rest
      (sym e ∙ (ap (λ z. z ++ r) v.1.bytes ∙ e')))

  -- a space and another character
  space_or_other : (x y r t : List ℕ) → IsTokenText alphabet Space x →
      IsTokenText alphabet Other y → x ++ r ≡ y ++ t → ⊥
  space_or_other x y r t a b e =
      let h = encode_same SPACE b.0 r t (sym (space_text r) ∙
      (ap (λ z. z ++ r) (sym a) ∙ (e ∙ ap (λ z. z ++ t) b.1))) in
      b.3 (sym h.0)

  -- another character at a brace is the brace
  brace_alone : (y rest t : List ℕ) → IsTokenText alphabet Other y →
      OPENING_BRACE ∷ rest ≡ y ++ t → y ≡ OPENING_BRACE ∷ []
  brace_alone y rest t b e =
      let h = encode_same OPENING_BRACE b.0 rest t
      (sym (brace_text rest) ∙ (e ∙ ap (λ z. z ++ t) b.1)) in
      b.1 ∙ (ap encode_utf8 (sym h.0) ∙ encode_ascii OPENING_BRACE (omega arith))

  -- a mark is not cut after its brace
  sentence_or_other : (x y r t : List ℕ) → IsTokenText alphabet Sentence x →
      IsTokenText alphabet Other y →
      (y ≡ OPENING_BRACE ∷ [] → BeginsWithMark (y ++ t) → ⊥) → x ++ r ≡ y ++ t → ⊥
  sentence_or_other x y r t a b marks e =
      let whole : SENTENCE ++ r ≡ y ++ t = ap (λ z. z ++ r) (sym a) ∙ e in
      marks (brace_alone y (drop 1 SENTENCE ++ r) t b whole) (SENTENCE, r, sym whole, inl refl)

  stop_or_other : (x y r t : List ℕ) → IsTokenText alphabet Stop x → IsTokenText alphabet Other y →
      (y ≡ OPENING_BRACE ∷ [] → BeginsWithMark (y ++ t) → ⊥) → x ++ r ≡ y ++ t → ⊥
  stop_or_other x y r t a b marks e =
      let whole : STOP ++ r ≡ y ++ t = ap (λ z. z ++ r) (sym a) ∙ e in
      marks (brace_alone y (drop 1 STOP ++ r) t b whole) (STOP, r, sym whole, inr (inl refl))

  tag_or_other : (x y r t : List ℕ) → IsTokenText alphabet Tag x → IsTokenText alphabet Other y →
      (y ≡ OPENING_BRACE ∷ [] → BeginsWithMark (y ++ t) → ⊥) → x ++ r ≡ y ++ t → ⊥
  tag_or_other x y r t (entry, (body, is, tag)) b marks e =
      let whole : OPENING_BRACE ∷ ((body ++ CLOSING_BRACE ∷ []) ++ r) ≡ y ++ t =
      ap (λ z. z ++ r) (sym is) ∙ e in
      marks (brace_alone y ((body ++ CLOSING_BRACE ∷ []) ++ r) t b whole)
      (x, r, sym e, inr (inr (entry, (body, is, tag))))

  space_or_tag : (x y r t : List ℕ) → IsTokenText alphabet Space x → IsTokenText alphabet Tag y →
      x ++ r ≡ y ++ t → ⊥
  space_or_tag x y r t a (entry, (body, is, tag)) e =
      let first : SPACE ≡ OPENING_BRACE =
      ap (λ (l : List ℕ). get_or l 0 0)
      (ap (λ z. z ++ r) (sym a) ∙ (e ∙ ap (λ z. z ++ t) is)) in
      omega (arith, first)

  -- the mark of a sentence's end is no tag, and nor is that which nothing matches
  sentence_or_tag : (x y r t : List ℕ) → IsTokenText alphabet Sentence x →
      IsTokenText alphabet Tag y → x ++ r ≡ y ++ t → ⊥
  sentence_or_tag x y r t a (entry, tag) e =
      no_comma (codes "S") (refl, tt) refl refl y t r entry tag
      (ap (λ z. z ++ r) (sym a) ∙ e)

  stop_or_tag : (x y r t : List ℕ) → IsTokenText alphabet Stop x → IsTokenText alphabet Tag y →
      x ++ r ≡ y ++ t → ⊥
  stop_or_tag x y r t a (entry, tag) e =
      no_comma (codes "STOP") (refl, (refl, (refl, (refl, tt)))) refl refl y t r entry tag
      (ap (λ z. z ++ r) (sym a) ∙ e)

  tags_same : (x y r t : List ℕ) → IsTokenText alphabet Tag x → IsTokenText alphabet Tag y →
      x ++ r ≡ y ++ t → (x ≡ y) × (r ≡ t)
  tags_same x y r t (entry, (body, is, tag)) (other_entry, (other, other_is, other_tag)) e =
      let parts : body ++ CLOSING_BRACE ∷ r ≡ other ++ CLOSING_BRACE ∷ t =
      ap (drop 1) (sym (tag_whole x r body is) ∙ (e ∙ tag_whole y t other other_is)) in
      let same = body_same body other r t
      (body_part body entry tag) tag.no_feed (body_part other other_entry other_tag)
      other_tag.no_feed parts in (
        is ∙ (ap (λ (l : List ℕ). OPENING_BRACE ∷ (l ++ CLOSING_BRACE ∷ [])) same.0
            ∙ sym other_is),
        same.1,
      )

  -- the byte at a place of two equal texts
  byte_same : (i : ℕ) (x y r t m n : List ℕ) → x ≡ m → y ≡ n → x ++ r ≡ y ++ t →
      get_or (m ++ r) i 0 ≡ get_or (n ++ t) i 0
  byte_same i x y r t m n a b e =
      ap (λ (l : List ℕ). get_or l i 0) (ap (λ z. z ++ r) (sym a) ∙ (e ∙ ap (λ z. z ++ t) b))

  sentence_or_stop : (x y r t : List ℕ) → IsTokenText alphabet Sentence x →
      IsTokenText alphabet Stop y → x ++ r ≡ y ++ t → ⊥
  sentence_or_stop x y r t a b e =
      let third : 125 ≡ 84 = byte_same 2 x y r t SENTENCE STOP a b e in
      omega (arith, third)

  space_or_sentence : (x y r t : List ℕ) → IsTokenText alphabet Space x →
      IsTokenText alphabet Sentence y → x ++ r ≡ y ++ t → ⊥
  space_or_sentence x y r t a b e =
      let first : SPACE ≡ OPENING_BRACE = byte_same 0 x y r t (SPACE ∷ []) SENTENCE a b e in
      omega (arith, first)

  space_or_stop : (x y r t : List ℕ) → IsTokenText alphabet Space x → IsTokenText alphabet Stop y →
      x ++ r ≡ y ++ t → ⊥
  space_or_stop x y r t a b e =
      let first : SPACE ≡ OPENING_BRACE = byte_same 0 x y r t (SPACE ∷ []) STOP a b e in
      omega (arith, first)

  -- what stands after one text is the same
  behind_same : (m x y r t : List ℕ) → x ≡ m → y ≡ m → x ++ r ≡ y ++ t → (x ≡ y) × (r ≡ t)
  behind_same m x y r t a b e = (
    a ∙ sym b,
    append_cancel_left m r t (ap (λ z. z ++ r) (sym a) ∙ (e ∙ ap (λ z. z ++ t) b)),
  )

  -- two tokens at the front of one text, of which none is a mark's brace where the other is a mark
  first_same : (k l : Kind) (x y r t : List ℕ) → IsTokenText alphabet k x →
      IsTokenText alphabet l y →
      (alphabet.single ≡ false → k ≡ Word → BeginsWithNone r) →
      (alphabet.single ≡ false → l ≡ Word → BeginsWithNone t) →
      ((IsPlain l → ⊥) → x ≡ OPENING_BRACE ∷ [] → BeginsWithMark (x ++ r) → ⊥) →
      ((IsPlain k → ⊥) → y ≡ OPENING_BRACE ∷ [] → BeginsWithMark (y ++ t) → ⊥) → x ++ r ≡ y ++ t →
      (k ≡ l) × (x ≡ y) × (r ≡ t)
  first_same Word Word x y r t a b n m p q e =
      let h = words_same x y r t a b (λ runs. n runs refl) (λ runs. m runs refl) e in
      (refl, h.0, h.1)
  first_same Space Space x y r t a b n m p q e =
      let h = behind_same (SPACE ∷ []) x y r t a b e in (refl, h.0, h.1)
  first_same Sentence Sentence x y r t a b n m p q e =
      let h = behind_same SENTENCE x y r t a b e in (refl, h.0, h.1)
  first_same Stop Stop x y r t a b n m p q e =
      let h = behind_same STOP x y r t a b e in (refl, h.0, h.1)
  first_same Other Other x y r t a b n m p q e =
      let h = encode_same a.0 b.0 r t (ap (λ z. z ++ r) (sym a.1) ∙ (e ∙ ap (λ z. z ++ t) b.1)) in
      (refl, a.1 ∙ (ap encode_utf8 h.0 ∙ sym b.1), h.1)
  first_same Word Space x y r t a b n m p q e =
      absurd (word_or_other Space x y r t a (λ same. cc) b e)
  first_same Word Other x y r t a b n m p q e =
      absurd (word_or_other Other x y r t a (λ same. cc) b e)
  first_same Word Sentence x y r t a b n m p q e =
      absurd (word_or_other Sentence x y r t a (λ same. cc) b e)
  first_same Word Stop x y r t a b n m p q e =
      absurd (word_or_other Stop x y r t a (λ same. cc) b e)
  first_same Space Word x y r t a b n m p q e =
      absurd (word_or_other Space y x t r b (λ same. cc) a (sym e))
  first_same Other Word x y r t a b n m p q e =
      absurd (word_or_other Other y x t r b (λ same. cc) a (sym e))
  first_same Sentence Word x y r t a b n m p q e =
      absurd (word_or_other Sentence y x t r b (λ same. cc) a (sym e))
  first_same Stop Word x y r t a b n m p q e =
      absurd (word_or_other Stop y x t r b (λ same. cc) a (sym e))
  first_same Space Other x y r t a b n m p q e = absurd (space_or_other x y r t a b e)
  first_same Other Space x y r t a b n m p q e = absurd (space_or_other y x t r b a (sym e))
  first_same Space Sentence x y r t a b n m p q e = absurd (space_or_sentence x y r t a b e)
  first_same Sentence Space x y r t a b n m p q e = absurd (space_or_sentence y x t r b a (sym e))
  first_same Space Stop x y r t a b n m p q e = absurd (space_or_stop x y r t a b e)
  first_same Stop Space x y r t a b n m p q e = absurd (space_or_stop y x t r b a (sym e))
  first_same Sentence Other x y r t a b n m p q e =
      absurd (sentence_or_other x y r t a b (q (λ plain. plain)) e)
  first_same Other Sentence x y r t a b n m p q e =
      absurd (sentence_or_other y x t r b a (p (λ plain. plain)) (sym e))
  first_same Stop Other x y r t a b n m p q e =
      absurd (stop_or_other x y r t a b (q (λ plain. plain)) e)
  first_same Other Stop x y r t a b n m p q e =
      absurd (stop_or_other y x t r b a (p (λ plain. plain)) (sym e))
  first_same Sentence Stop x y r t a b n m p q e = absurd (sentence_or_stop x y r t a b e)
  first_same Stop Sentence x y r t a b n m p q e = absurd (sentence_or_stop y x t r b a (sym e))
  first_same Tag Tag x y r t a b n m p q e =
      let h = tags_same x y r t a b e in (refl, h.0, h.1)
  first_same Word Tag x y r t a b n m p q e =
      absurd (word_or_other Tag x y r t a (λ same. cc) b e)
  first_same Tag Word x y r t a b n m p q e =
      absurd (word_or_other Tag y x t r b (λ same. cc) a (sym e))
  first_same Space Tag x y r t a b n m p q e = absurd (space_or_tag x y r t a b e)
  first_same Tag Space x y r t a b n m p q e = absurd (space_or_tag y x t r b a (sym e))
  first_same Other Tag x y r t a b n m p q e =
      absurd (tag_or_other y x t r b a (p (λ plain. plain)) (sym e))
  first_same Tag Other x y r t a b n m p q e =
      absurd (tag_or_other x y r t a b (q (λ plain. plain)) e)
  first_same Sentence Tag x y r t a b n m p q e = absurd (sentence_or_tag x y r t a b e)
  first_same Tag Sentence x y r t a b n m p q e = absurd (sentence_or_tag y x t r b a (sym e))
  first_same Stop Tag x y r t a b n m p q e = absurd (stop_or_tag x y r t a b e)
  first_same Tag Stop x y r t a b n m p q e = absurd (stop_or_tag y x t r b a (sym e))

  token_same : (t u : Token) → t.kind ≡ u.kind → t.text ≡ u.text → t ≡ u
  token_same t u e f =
      let first : t ≡ record { kind = u.kind; text = t.text } = ap
      (λ k. record { kind = k; text = t.text }) e in
      first ∙ ap (λ x. record { kind = u.kind; text = x }) f

  -- where marks count, none is cut after its brace, and where they don't, no token is one
  module _ (MarksCount : Type 0) where
    record AreCutBy (tokens : List Token) : Type 0 where
      pub each : All (λ token. IsTokenText alphabet token.kind token.text) tokens
      pub apart : alphabet.single ≡ false → (k : ℕ) (a b : Token) → slice_get tokens k ≡ Some a →
          slice_get tokens (k + 1) ≡ Some b → a.kind ≡ Word → b.kind ≢ Word
      pub marks : (k : ℕ) (a : Token) → slice_get tokens k ≡ Some a → a.text ≡ OPENING_BRACE ∷ [] →
          BeginsWithMark (joined (drop k tokens)) → MarksCount → ⊥
      pub kinds : All (λ token. IsPlain token.kind ⊎ MarksCount) tokens

    rest_cut : (t : Token) (ts : List Token) → AreCutBy (t ∷ ts) → AreCutBy ts
    rest_cut t ts c = record {
      each = λ k d lt. c.each (suc k) d (omega arith);
      apart = λ runs k a b first second. c.apart runs (suc k) a b first
          (subst (λ n. slice_get (t ∷ ts) n ≡ Some b) (next k) second);
      marks = λ k a at brace begins count. c.marks (suc k) a at brace begins count;
      kinds = λ k d lt. c.kinds (suc k) d (omega arith);
    }
      where
        next : (k : ℕ) → suc (k + 1) ≡ suc k + 1
        next k = omega arith

    -- after a word no letter stands, unless the alphabet is single
    after_word : (t : Token) (ts : List Token) → AreCutBy (t ∷ ts) → alphabet.single ≡ false →
        t.kind ≡ Word → BeginsWithNone (joined ts)
    after_word t [] c runs word = λ d rest e letter. some_byte d rest e
    after_word t (u ∷ ts) c runs word =
        front_is_none u.kind u.text (joined ts) (c.apart runs 0 t u refl refl word)
        (c.each 1 u (omega arith))

    no_empty : (t : Token) (ts : List Token) → AreCutBy (t ∷ ts) → let none : List ℕ = [] in none ≡
        t.text ++ joined ts → ⊥
    no_empty t ts c e = token_some t.kind t.text (joined ts) (c.each 0 t (omega arith)) e

    -- beside a mark marks count
    beside_mark : (kind : Kind) → IsPlain kind ⊎ MarksCount → (IsPlain kind → ⊥) → MarksCount
    beside_mark kind (inl plain) mark = absurd (mark plain)
    beside_mark kind (inr count) mark = count

    cut_same : (ts us : List Token) → AreCutBy ts → AreCutBy us → joined ts ≡ joined us → ts ≡ us
    cut_same [] [] a b e = refl
    cut_same [] (u ∷ us) a b e = absurd (no_empty u us b e)
    cut_same (t ∷ ts) [] a b e = absurd (no_empty t ts a (sym e))
    cut_same (t ∷ ts) (u ∷ us) a b e =
        let h = first_same t.kind u.kind t.text u.text (joined ts) (joined us)
        (a.each 0 t (omega arith)) (b.each 0 u (omega arith))
        (after_word t ts a) (after_word u us b)
        (λ mark brace begins.
        a.marks 0 t refl brace begins (beside_mark u.kind (b.kinds 0 u (omega arith)) mark))
        (λ mark brace begins.
        b.marks 0 u refl brace begins (beside_mark t.kind (a.kinds 0 t (omega arith)) mark)) e in
        ap (λ x. x ∷ ts) (token_same t u h.0 h.1) ∙ ap (λ xs. u ∷ xs)
        (cut_same ts us (rest_cut t ts a) (rest_cut u us b) h.2)

  -- the list of tokens of a text is the only one
  pub tokens_unique : (text : List ℕ) (ts us : List Token) → AreTokens alphabet text ts →
      AreTokens alphabet text us → ts ≡ us
  tokens_unique text ts us a b =
      cut_same (Unit {0}) ts us (cut ts a) (cut us b) (a.cut.whole ∙ sym b.cut.whole)
    where
      cut : (tokens : List Token) → AreTokens alphabet text tokens → AreCutBy (Unit {0}) tokens
      cut tokens are = record {
        each = are.cut.each;
        apart = are.cut.apart;
        marks = λ k a at brace begins count. are.marks k a at brace begins;
        kinds = λ k d lt. inr tt;
      }

  -- and so is its list where a brace is a character as any other
  pub plain_unique : (text : List ℕ) (ts us : List Token) → ArePlainTokens alphabet text ts →
      ArePlainTokens alphabet text us → ts ≡ us
  plain_unique text ts us a b =
      cut_same ⊥ ts us (cut ts a) (cut us b) (a.cut.whole ∙ sym b.cut.whole)
    where
      cut : (tokens : List Token) → ArePlainTokens alphabet text tokens → AreCutBy ⊥ tokens
      cut tokens are = record {
        each = are.cut.each;
        apart = are.cut.apart;
        marks = λ k a at brace begins count. count;
        kinds = λ k d lt. inl (are.plain k d lt);
      }
