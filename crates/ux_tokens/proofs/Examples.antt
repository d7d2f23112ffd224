-- The definitions on small texts.
use Rattle.std.proofs.Common.{◌≡◌, ◌≢◌, inl, inr, ℕ, zero, suc, ◌+◌, ◌<◌, Bool, List, [], ◌∷◌, Some, get_or, drop, length, refl, ◌∙◌, ap, false, true, arith, rules}
use Rattle.std.specs.Fmt.{digits}
use Rattle.std.specs.List.{slice_get}
use Rattle.std.specs.Str.{IsAscii, chars}
use Rattle.std.proofs.lemmas.Str.{IsUtf8-from_ascii}
use Rattle.std.proofs.lemmas.List.Elements.{All-nil, All-cons, All-same}
use Rattle.std.proofs.lemmas.Option.{none-some, same_Some}
use Rattle.ux_alphabet.specs.Letters.{Letters, IsLetter}
use Rattle.ux_alphabet.specs.declared.line.Line.TheVariants.{Pair}
use Rattle.ux_dela.specs.Signs.{is_brace}
use Rattle.ux_dela.specs.Written.{IsPart}
use Rattle.ux_dela.specs.Reading.{characters}
use Rattle.ux_dela.specs.declared.entry.Entry.{Entry}
use Rattle.ux_tokens.specs.Tails.{before_form, is_tail}
use Rattle.ux_tokens.proofs.TailLemmas.{tail_body}
use Rattle.ux_tokens.specs.TokenFile.{token_file}
use Rattle.std.specs.Prelude.{codes}
use Rattle.ux_tokens.specs.declared.kind.Kind.TheVariants.{Word, Space, Sentence}
use Rattle.ux_tokens.specs.Tokens.{Token, SENTENCE, OPENING_BRACE, IsTokenText, IsTag, AreTokens, BeginsWithMark, with_single_spaces, joined}
use Rattle.ux_tokens.specs.Numbers.{different_texts}
use Rattle.ux_tokens.specs.Pieces.{tokens_from}

-- `a`, a space, a tab and `b`; a carriage return and a line feed at the end
one_space : with_single_spaces (97 ∷ 32 ∷ 9 ∷ 98 ∷ []) ≡ 97 ∷ 32 ∷ 98 ∷ []
one_space = refl

line_end : with_single_spaces (97 ∷ 13 ∷ 10 ∷ []) ≡ 97 ∷ 32 ∷ []
line_end = refl

abbrev word : ℕ → Token
word letter = record { kind = Word; text = letter ∷ [] }

abbrev space : Token
space = record { kind = Space; text = 32 ∷ [] }

-- the tokens of `a b a`: three different ones, and their texts joined
numbers : different_texts (word 97 ∷ space ∷ word 98 ∷ space ∷ word 97 ∷ [])
    ≡ (97 ∷ []) ∷ (32 ∷ []) ∷ (98 ∷ []) ∷ []
numbers = refl

together : joined (word 97 ∷ space ∷ word 98 ∷ []) ≡ 97 ∷ 32 ∷ 98 ∷ []
together = refl

-- `a ` as pieces that end at 1 and 2
kept : tokens_from (97 ∷ 32 ∷ []) 0 (record { end = 1; number = 0; kind = Word } ∷ record
    { end = 2; number = 1; kind = Space } ∷ [])
    ≡ word 97 ∷ space ∷ []
kept = refl

abbrev sentence : Token
sentence = record { kind = Sentence; text = SENTENCE }

-- the alphabet of `Aa` and `Bb`, whose words are runs of letters or single ones
abbrev letters : Bool → Letters
letters single = record { lines = Pair 65 97 ∷ Pair 66 98 ∷ []; single = single }

-- the tokens of `a{S}b`: a word, a mark and a word
abbrev marked : List Token
marked = word 97 ∷ sentence ∷ word 98 ∷ []

-- those of `ab` where each letter is a word
abbrev two : List Token
two = word 97 ∷ word 98 ∷ []

module _ (single : Bool) where
  is_word : (letter : ℕ) → letter < 128 → chars (letter ∷ []) ≡ letter ∷ [] →
      IsLetter (letters single) letter → IsTokenText (letters single) Word (letter ∷ [])
  is_word letter ascii char is = record {
    some = λ none. (let one = ap length none in omega (arith, one));
    utf8 = IsUtf8-from_ascii (letter ∷ []) (is_ascii letter ascii);
    letters = All-same (IsLetter (letters single)) (chars (letter ∷ [])) (letter ∷ []) char
        (All-cons (IsLetter (letters single)) letter [] is
        (All-nil (IsLetter (letters single))));
    one = λ _. ap length char;
  }
    where
      is_ascii : (byte : ℕ) → byte < 128 → IsAscii (byte ∷ [])
      is_ascii byte small zero = small
      is_ascii byte small (suc k) = omega arith

  word_a : IsTokenText (letters single) Word (97 ∷ [])
  unfolding chars
  word_a = is_word 97 (omega arith) refl
      (inr (refl, (0, Pair 65 97, omega arith, refl, refl)))

  word_b : IsTokenText (letters single) Word (98 ∷ [])
  unfolding chars
  word_b = is_word 98 (omega arith) refl
      (inr (refl, (1, Pair 66 98, omega arith, refl, refl)))

  abbrev IsText : Token → Type 0
  IsText token = IsTokenText (letters single) token.kind token.text

  -- a mark stands between the letters, so both alphabets cut the same
  marked_tokens : AreTokens (letters single) (codes "a{S}b") marked
  marked_tokens = record {
    cut = record {
      whole = refl;
      each =
          All-cons IsText (word 97) (sentence ∷ word 98 ∷ []) word_a
          (All-cons IsText sentence (word 98 ∷ []) refl
          (All-cons IsText (word 98) [] word_b (All-nil IsText)));
      apart = λ runs. apart;
    };
    marks = marks;
  }
    where
      -- of two neighbours one is the mark
      apart : (k : ℕ) (a b : Token) → slice_get marked k ≡ Some a →
          slice_get marked (k + 1) ≡ Some b → a.kind ≡ Word → b.kind ≢ Word
      apart zero a b first second is = λ also.
          let kind : Sentence ≡ Word =
          ap (λ (t : Token). t.kind) (same_Some sentence b second) ∙ also in
          cc
      apart (suc zero) a b first second is = λ also.
          let kind : Sentence ≡ Word =
          ap (λ (t : Token). t.kind) (same_Some sentence a first) ∙ is in
          cc
      apart (suc (suc zero)) a b first second is = absurd (none-some b second)
      apart (suc (suc (suc k))) a b first second is = absurd (none-some a first)

      -- and none is a brace
      marks : (k : ℕ) (a : Token) → slice_get marked k ≡ Some a → a.text ≡ OPENING_BRACE ∷ [] →
          BeginsWithMark (joined (drop k marked)) → ⊥
      marks zero a at brace begins =
          let byte : 97 ≡ 123 = ap (λ (l : List ℕ). get_or l 0 0)
          (ap (λ (t : Token). t.text) (same_Some (word 97) a at) ∙ brace) in
          omega (arith, byte)
      marks (suc zero) a at brace begins =
          let bytes : 3 ≡ 1 =
          ap length (ap (λ (t : Token). t.text) (same_Some sentence a at) ∙ brace) in
          omega (arith, bytes)
      marks (suc (suc zero)) a at brace begins =
          let byte : 98 ≡ 123 = ap (λ (l : List ℕ). get_or l 0 0)
          (ap (λ (t : Token). t.text) (same_Some (word 98) a at) ∙ brace) in
          omega (arith, byte)
      marks (suc (suc (suc k))) a at brace begins = none-some a at

-- by a single alphabet `ab` is two words
two_words : AreTokens (letters true) (codes "ab") two
two_words = record {
  cut = record {
    whole = refl;
    each =
        All-cons (IsText true) (word 97) (word 98 ∷ []) (word_a true)
        (All-cons (IsText true) (word 98) [] (word_b true) (All-nil (IsText true)));
    apart = λ runs. absurd cc;
  };
  marks = marks;
}
  where
    -- none is a brace
    marks : (k : ℕ) (a : Token) → slice_get two k ≡ Some a → a.text ≡ OPENING_BRACE ∷ [] →
        BeginsWithMark (joined (drop k two)) → ⊥
    marks zero a at brace begins =
        let byte : 97 ≡ 123 = ap (λ (l : List ℕ). get_or l 0 0)
        (ap (λ (t : Token). t.text) (same_Some (word 97) a at) ∙ brace) in
        omega (arith, byte)
    marks (suc zero) a at brace begins =
        let byte : 98 ≡ 123 = ap (λ (l : List ℕ). get_or l 0 0)
        (ap (λ (t : Token). t.text) (same_Some (word 98) a at) ∙ brace) in
        omega (arith, byte)
    marks (suc (suc k)) a at brace begins = none-some a at

-- and not one
not_one_word : IsTokenText (letters true) Word (codes "ab") → ⊥
unfolding chars
not_one_word word = let one : 2 ≡ 1 = word.one refl in omega (arith, one)

-- by another alphabet it isn't two
not_two_words : AreTokens (letters false) (codes "ab") two → ⊥
not_two_words are = are.cut.apart refl 0 (word 97) (word 98) refl refl refl refl

-- their token file
marked_file : token_file marked ≡ codes "3\na\n{S}\nb\n"
unfolding digits
marked_file = refl

-- at `{S}b` a mark begins
mark : BeginsWithMark (codes "{S}b")
mark = (SENTENCE, codes "b", refl, inl refl)

-- `{am,be.V:P1s}` is a tag
tag : (entry : Entry) × IsTag (codes "{am,be.V:P1s}") entry
tag =
    let body = tail_body (codes "am,be.V:P1s") part refl refl in
    (body.0, (codes "am,be.V:P1s", refl, body.1))
  where
    part : IsPart is_brace (characters (codes "am,be.V:P1s"))
    part = search rules

-- neither a comment nor a line that is skipped is a body, but a form may begin with a slash
comment : is_tail before_form (characters (codes "a,.N/")) ≡ false
comment = refl

skipped : is_tail before_form (characters (codes "/a,.N")) ≡ false
skipped = refl

slash : is_tail before_form (characters (codes "\\/a,.N")) ≡ true
slash = refl
