-- The texts of words and of other characters have no separator and stand between no braces.
use Rattle.std.proofs.Common.{arith, ◌≡◌, ◌≢◌, ℕ, suc, ◌<◌, Bool, true, false, cond, List, [], ◌∷◌, ◌++◌, length, get_or, length-append, refl, sym, ◌∙◌, ap, subst, inl, inr}
use Rattle.std.specs.Prelude.{All, Contains, ◌==◌, ◌||◌, encode_utf8}
use Rattle.std.specs.List.{list_any}
use Rattle.std.specs.Str.{chars, encode_utf8_all}
use Rattle.std.proofs.lemmas.Bool.{cases_Bool, false≢true}
use Rattle.std.proofs.lemmas.List.{append-nil}
use Rattle.std.proofs.lemmas.List.Elements.{All-contains, Contains-append_cases, Contains-append_left, Contains-append_right}
use Rattle.std.proofs.lemmas.List.Folds.{Any-from_list_any}
use Rattle.std.proofs.lemmas.Option.{same_Some, slice_get-get_or}
use Rattle.std.proofs.lemmas.Str.{encode_ascii, encodes-chars, inside_one, length-le-encodes}
use Rattle.ux_base.proofs.FirstsLemmas.{Contains-none}
use Rattle.ux_base.proofs.OrderedLists.{Contains-cons_cases}
use Rattle.ux_alphabet.specs.Letters.{Letters, IsLetter, is_separator, never_letter}
use Rattle.ux_sentence.specs.Readings.{IsBraced, IsRawText}
use Rattle.ux_sentence.specs.Readings as readings
use Rattle.ux_tokens.specs.declared.kind.Kind.{Kind}
use Rattle.ux_tokens.specs.declared.kind.Kind.TheVariants.{Word, Space, Other, Sentence, Stop, Tag}
use Rattle.ux_tokens.specs.Tokens.{AreTokens, IsTokenText, IsWord, SPACE, Token, begins_with_separator, joined, with_single_spaces}
use Rattle.ux_tokens.proofs.SpacesLemmas.{separator_is_ascii}
use Rattle.ux_text_automaton.specs.Built.{MayBeRaw}

-- BYTES OF CHARACTERS

same_at : (xs : List ℕ) (k b : ℕ) → k < length xs → get_or xs k b ≡ b → get_or xs k 0 ≡ b
same_at xs k b lt is =
    same_Some (get_or xs k 0) (get_or xs k b)
    (sym (slice_get-get_or xs k 0 lt) ∙ slice_get-get_or xs k b lt) ∙ is

-- an ASCII byte of a character is that character
byte_of_one : (c b : ℕ) → Contains (encode_utf8 c) b → b < 128 → c ≡ b
byte_of_one c b (k, lt, is) low =
    let there = same_at (encode_utf8 c) k b lt is in
    inside_one c [] (encode_utf8 c) k (sym (append-nil (encode_utf8 c))) lt
    (subst (λ (n : ℕ). n < 128) (sym there) low) ∙ there

byte_of_all : (cs : List ℕ) (P : ℕ → Type 0) → All P cs → (b : ℕ) →
    Contains (encode_utf8_all cs) b → b < 128 → P b
byte_of_all [] P all b member low = absurd (Contains-none b member)
byte_of_all (c ∷ cs) P all b member low =
    elim (Contains-append_cases (encode_utf8 c) (encode_utf8_all cs) b member) [
      | inl here ↦ subst P (byte_of_one c b here low) (all 0 c (omega arith))
      | inr later ↦ byte_of_all cs P (λ k d lt. all (suc k) d (omega arith)) b later low
    ]

-- WORDS

never_is : (alphabet : Letters) (b : ℕ) → IsLetter alphabet b → never_letter b ≡ false
never_is alphabet b (inl upper) = upper.0
never_is alphabet b (inr lower) = lower.0

-- an ASCII byte of a word is a letter
letter_byte : (alphabet : Letters) (text : List ℕ) → IsWord alphabet text → (b : ℕ) →
    Contains text b → b < 128 → never_letter b ≡ false
letter_byte alphabet text word b member low =
    never_is alphabet b
    (byte_of_all (chars text) (IsLetter alphabet) word.letters b
    (subst (λ (l : List ℕ). Contains l b) (sym (encodes-chars text word.utf8)) member) low)

-- SEPARATORS

grouped : (p q r s : Bool) → (p || (q || (r || s))) ≡ (p || q || r || s)
grouped true q r s = refl
grouped false true r s = refl
grouped false false true s = refl
grouped false false false s = refl

-- a byte that is no separator but where it is one
none_by : (text : List ℕ) → ((b : ℕ) → Contains text b → is_separator b ≡ true → ⊥) →
    list_any readings.is_separator text ≡ false
none_by text without = elim (cases_Bool (list_any readings.is_separator text)) [
  | inl some ↦ (
      let any = Any-from_list_any readings.is_separator text some in
      absurd (without any.1 (any.0, any.2, any.3)
      (sym (grouped (any.1 == 32) (any.1 == 9) (any.1 == 13) (any.1 == 10)) ∙ any.4)))
  | inr none ↦ none
]

single_by : (s t : Bool) (b x : ℕ) (w : List ℕ) → is_separator b ≡ s →
    (Contains w x → x ≡ SPACE) → Contains (cond s (cond t w (SPACE ∷ w)) (b ∷ w)) x →
    is_separator x ≡ true → x ≡ SPACE
single_by true true b x w is rest member sep = rest member
single_by true false b x w is rest member sep = elim (Contains-cons_cases SPACE x w member) [
  | inl same ↦ sym same
  | inr later ↦ rest later
]
single_by false t b x w is rest member sep = elim (Contains-cons_cases b x w member) [
  | inl same ↦ absurd (false≢true (sym is ∙ (ap is_separator same ∙ sep)))
  | inr later ↦ rest later
]

-- a separator in a text of single spaces is a space
single_is : (text : List ℕ) (x : ℕ) → is_separator x ≡ true → Contains (with_single_spaces text) x →
    x ≡ SPACE
single_is [] x sep member = absurd (Contains-none x member)
single_is (b ∷ text) x sep member =
    single_by (is_separator b) (begins_with_separator text) b x (with_single_spaces text) refl
    (single_is text x sep) member sep

-- a byte of a token is one of the text
byte_joined : (tokens : List Token) (token : Token) (b : ℕ) → Contains tokens token →
    Contains token.text b → Contains (joined tokens) b
byte_joined [] token b has member = absurd (Contains-none token has)
byte_joined (first ∷ tokens) token b has member = elim (Contains-cons_cases first token tokens has) [
  | inl same ↦ Contains-append_left first.text (joined tokens) b
      (subst (λ (t : Token). Contains t.text b) (sym same) member)
  | inr later ↦ Contains-append_right first.text (joined tokens) b
      (byte_joined tokens token b later member)
]

-- TOKENS

word_raw : (alphabet : Letters) (text : List ℕ) → IsWord alphabet text → IsRawText text
word_raw alphabet text word = record {
  some = word.some;
  no_separator = none_by text (λ b member sep. no_letter b member sep (separator_is_ascii b sep));
  no_braces = λ body braced. brace (subst (λ (l : List ℕ). Contains l 123) (sym braced.whole)
      (0, omega arith, refl));
}
  where
    no_letter : (b : ℕ) → Contains text b → is_separator b ≡ true → b < 128 → ⊥
    no_letter b member sep low =
        let never = letter_byte alphabet text word b member low in
        false≢true (sym never ∙ ap (λ (s : Bool). (s || (b == 123)) || (b == 125)) sep)

    brace : Contains text 123 → ⊥
    brace member = false≢true (sym (letter_byte alphabet text word 123 member (omega arith)))

module _ (alphabet : Letters) (bytes : List ℕ) (tokens : List Token)
    (are : AreTokens alphabet bytes tokens) where
  other_raw : (token : Token) → Contains tokens token → IsTokenText alphabet Other token.text →
      IsRawText token.text
  other_raw token has (c, is, no_letter, no_space) = record {
    some = λ none. empty (sym is ∙ none);
    no_separator = none_by token.text separated;
    no_braces = λ body braced. brace body braced.whole braced.some
        (byte_of_one c 123 (subst (λ (l : List ℕ). Contains l 123) (sym braced.whole ∙ is)
        (0, omega arith, refl)) (omega arith));
  }
    where
      empty : encode_utf8 c ≡ [] → ⊥
      empty none =
          let long = length-le-encodes (c ∷ []) in
          let same : encode_utf8_all (c ∷ []) ≡ [] = append-nil (encode_utf8 c) ∙ none in
          omega (arith, long, ap length same)

      separated : (b : ℕ) → Contains token.text b → is_separator b ≡ true → ⊥
      separated b member sep =
          let one = byte_of_one c b (subst (λ (l : List ℕ). Contains l b) is member)
          (separator_is_ascii b sep) in
          let single = single_is bytes b sep
          (subst (λ (l : List ℕ). Contains l b) are.cut.whole (byte_joined tokens token b has member)) in
          no_space (one ∙ single)

      brace : (body : List ℕ) → token.text ≡ 123 ∷ (body ++ 125 ∷ []) → body ≢ [] → c ≡ 123 → ⊥
      brace body whole some same =
          let alone : token.text ≡ 123 ∷ [] =
          is ∙ (ap encode_utf8 same ∙ encode_ascii 123 (omega arith)) in
          let lengths = ap length (sym alone ∙ whole) in
          absurd (omega (arith, lengths, length-append body (125 ∷ [])))

  raw_by : (token : Token) → Contains tokens token → (k : Kind) → MayBeRaw k →
      IsTokenText alphabet k token.text → IsRawText token.text
  raw_by token has Word may text = word_raw alphabet token.text text
  raw_by token has Space may text = absurd may
  raw_by token has Other may text = other_raw token has text
  raw_by token has Sentence may text = absurd may
  raw_by token has Stop may text = absurd may
  raw_by token has Tag may text = absurd may

  -- the text of a word or another character can stand for itself
  pub raw_text : (token : Token) → Contains tokens token → MayBeRaw token.kind →
      IsRawText token.text
  raw_text token has may = raw_by token has token.kind may
      (All-contains (λ token. IsTokenText alphabet token.kind token.text) tokens token are.cut.each has)
