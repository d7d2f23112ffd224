-- A run of letters at the front of a text grows by one letter at a time.
use Rattle.std.proofs.Common.{◌≡◌, ℕ, ◌+◌, ◌<◌, false, List, [], ◌∷◌, ◌++◌, All, length, take, drop, encode_utf8, refl, sym, ◌∙◌, ap, subst, append_assoc, zero-add, arith}
use Rattle.std.specs.Str.{IsCharBoundary, IsUtf8, chars}
use Rattle.std.specs.Char.{len_utf8}
use Rattle.std.proofs.lemmas.Bool.{false≢true}
use Rattle.std.proofs.lemmas.Str.{length-encode, len_utf8_bounds, IsCharBoundary-start, IsCharBoundary-past_char, IsUtf8-take, IsUtf8-drop, chars-append, chars-nil, chars_past_char, drop_past_char}
use Rattle.std.proofs.lemmas.List.{append-nil, append_cancel_right, take-append-drop, drop_all, take_at, length-drop, length-take-le}
use Rattle.std.proofs.lemmas.List.Elements.{All-nil, All-cons, All-push, All-same}
use Rattle.ux_alphabet.specs.Letters.{Letters, IsLetter}
use Rattle.ux_tokens.specs.declared.kind.Kind.TheVariants.{Word, Other}
use Rattle.ux_tokens.specs.Tokens.{IsWord}
use Rattle.ux_tokens.specs.First.{BeginsWithNoLetter, IsFirstToken}

module _ (alphabet : Letters) (text : List ℕ) where
  -- the first bytes of the text are letters, and `rest` stands after them
  pub record IsRun (len : ℕ) (rest : List ℕ) : Type 0 where
    pub behind : drop len text ≡ rest
    pub cut : IsCharBoundary text len
    pub letters : All (IsLetter alphabet) (chars (take len text))

  pub run_start : IsUtf8 text → IsRun 0 text
  run_start utf8 = record {
    behind = refl;
    cut = IsCharBoundary-start text utf8;
    letters = All-same (IsLetter alphabet) (chars []) [] chars-nil (All-nil (IsLetter alphabet));
  }

  -- the characters of a text that is cut in two
  chars-cut : IsUtf8 text → (len : ℕ) → IsCharBoundary text len →
      chars text ≡ chars (take len text) ++ chars (drop len text)
  chars-cut utf8 len cut =
      ap chars (sym (take-append-drop len text))
      ∙ chars-append (take len text) (drop len text) (IsUtf8-take text len utf8 cut)

  pub run_more : IsUtf8 text → (len : ℕ) (rest after : List ℕ) (c : ℕ) → IsRun len rest →
      rest ≡ encode_utf8 c ++ after → IsLetter alphabet c → IsRun (len + len_utf8 c) after
  run_more utf8 len rest after c run next letter =
      let at : drop len text ≡ encode_utf8 c ++ after = run.behind ∙ next in
      let from : IsUtf8 (drop len text) = IsUtf8-drop text len utf8 run.cut in
      let cut : IsCharBoundary text (len + len_utf8 c) =
      IsCharBoundary-past_char text after len c run.cut.0 from at in
      let behind : drop (len + len_utf8 c) text ≡ after = drop_past_char text after len c at in
      let first : chars (drop len text) ≡ c ∷ chars after =
      chars_past_char (drop len text) after c from at in
      let grown : chars (take (len + len_utf8 c) text) ++ chars after
      ≡ (chars (take len text) ++ (c ∷ [])) ++ chars after =
      ap (λ (l : List ℕ). chars (take (len + len_utf8 c) text) ++ chars l) (sym behind)
      ∙ sym (chars-cut utf8 (len + len_utf8 c) cut)
      ∙ chars-cut utf8 len run.cut
      ∙ ap (λ (l : List ℕ). chars (take len text) ++ l) first
      ∙ sym (append_assoc (chars (take len text)) (c ∷ []) (chars after)) in
      record {
        behind = behind;
        cut = cut;
        letters = All-same (IsLetter alphabet) _ _ (append_cancel_right _ _ (chars after) grown)
            (All-push (IsLetter alphabet) (chars (take len text)) c run.letters letter);
      }

  -- the run ends before a character that is no letter
  pub run_ends : IsUtf8 text → (len : ℕ) (rest after : List ℕ) (c : ℕ) → IsRun len rest →
      rest ≡ encode_utf8 c ++ after → (IsLetter alphabet c → ⊥) →
      BeginsWithNoLetter alphabet (drop len text)
  run_ends utf8 len rest after c run next other d more is letter =
      let first : chars (drop len text) ≡ c ∷ chars after =
      chars_past_char (drop len text) after c (IsUtf8-drop text len utf8 run.cut)
      (run.behind ∙ next) in
      let same : c ≡ d = cc in
      other (subst (IsLetter alphabet) (sym same) letter)

  -- a run with nothing after it is the whole text
  pub run_is_all : (len : ℕ) (rest : List ℕ) → IsRun len rest → length rest ≡ 0 →
      length text ≡ len
  run_is_all len rest run none =
      omega (arith, none, run.cut.0, ap length run.behind, length-drop len text)

  -- so no letter is after it
  pub run_ends_all : (len : ℕ) (rest : List ℕ) → IsRun len rest → length rest ≡ 0 →
      BeginsWithNoLetter alphabet (drop len text)
  run_ends_all len rest run none d more is letter =
      let empty : rest ≡ [] = drop_all 0 rest (omega arith) in
      let nothing : chars (drop len text) ≡ [] = ap chars (run.behind ∙ empty) ∙ chars-nil in
      cc

-- the front of a text that begins with a character: it may be cut after it, and is its bytes
pub cut_char : (text after : List ℕ) (c : ℕ) → IsUtf8 text → text ≡ encode_utf8 c ++ after →
    IsCharBoundary text (len_utf8 c)
cut_char text after c utf8 first =
    subst (IsCharBoundary text) (zero-add (len_utf8 c))
    (IsCharBoundary-past_char text after 0 c (omega arith) utf8 first)

pub take_char : (text after : List ℕ) (c : ℕ) → text ≡ encode_utf8 c ++ after →
    take (len_utf8 c) text ≡ encode_utf8 c
take_char text after c first =
    ap (take (len_utf8 c)) first ∙ take_at (encode_utf8 c) after (len_utf8 c) (length-encode c)

-- a longest run of letters is the word at the front, unless the alphabet is single
pub run_first : (alphabet : Letters) (text : List ℕ) (len : ℕ) → IsUtf8 text →
    alphabet.single ≡ false → IsCharBoundary text len →
    All (IsLetter alphabet) (chars (take len text)) →
    BeginsWithNoLetter alphabet (drop len text) → 0 < len → IsFirstToken alphabet text Word len
run_first alphabet text len utf8 runs cut letters ends some = record {
  is = record {
    some = λ none. omega (arith, length-take-le len text cut.0, ap length none, some);
    utf8 = IsUtf8-take text len utf8 cut;
    letters = letters;
    one = λ single. absurd (false≢true (sym runs ∙ single));
  };
  longest = λ _ _. ends;
}

-- a letter is a word by itself
pub letter_word : (alphabet : Letters) (text after : List ℕ) (c : ℕ) → IsUtf8 text →
    text ≡ encode_utf8 c ++ after → IsLetter alphabet c → IsWord alphabet (take (len_utf8 c) text)
letter_word alphabet text after c utf8 first letter =
    let bytes : take (len_utf8 c) text ≡ encode_utf8 c = take_char text after c first in
    let valid : IsUtf8 (take (len_utf8 c) text) =
    IsUtf8-take text (len_utf8 c) utf8 (cut_char text after c utf8 first) in
    let one : chars (take (len_utf8 c) text) ≡ c ∷ [] =
    chars_past_char (take (len_utf8 c) text) [] c valid (bytes ∙ sym (append-nil (encode_utf8 c)))
    ∙ ap (λ (l : List ℕ). c ∷ l) chars-nil in
    record {
      some = λ none.
          omega (arith, ap length bytes, ap length none, length-encode c, (len_utf8_bounds c).0);
      utf8 = valid;
      letters = All-same (IsLetter alphabet) _ _ one
          (All-cons (IsLetter alphabet) c [] letter (All-nil (IsLetter alphabet)));
      one = λ single. ap length one;
    }

-- a character that is neither a letter nor a space is a token
pub other_first : (alphabet : Letters) (text after : List ℕ) (c : ℕ) → IsUtf8 text →
    text ≡ encode_utf8 c ++ after → BeginsWithNoLetter alphabet text → (c ≡ 32 → ⊥) →
    IsFirstToken alphabet text Other (len_utf8 c)
other_first alphabet text after c utf8 first no_letter no_space = record {
  is = (
    c,
    take_char text after c first,
    no_letter c (chars after)
        (chars_past_char text after c utf8 first),
    no_space,
  );
  longest = λ runs same. cc;
}
