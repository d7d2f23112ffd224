-- A list of tokens grows by the token before it, and so do tokens that reach to the rest of a text.
use Rattle.std.proofs.Common.{◌≡◌, ◌≢◌, ◌⊎◌, inl, inr, ℕ, zero, suc, ◌+◌, ◌<◌, List, [], ◌∷◌, ◌++◌, All, length, drop, Some, false, refl, sym, ◌∙◌, ap, subst, append_assoc, arith}
use Rattle.std.specs.List.{slice_get}
use Rattle.std.specs.Str.{IsUtf8, chars}
use Rattle.std.specs.Str.{encode_utf8_all}
use Rattle.std.proofs.lemmas.Str.{chars-append, encodes-chars}
use Rattle.std.proofs.lemmas.List.{append-nil}
use Rattle.std.proofs.lemmas.List.Elements.{All-nil, All-cons, All-head}
use Rattle.std.proofs.lemmas.Option.{none-some, same_Some}
use Rattle.ux_alphabet.specs.Letters.{Letters, IsLetter}
use Rattle.ux_tokens.specs.declared.kind.Kind.{Kind}
use Rattle.ux_tokens.specs.declared.kind.Kind.TheVariants.{Word}
use Rattle.ux_tokens.specs.Tokens.{Token, IsWord, IsTokenText, OPENING_BRACE, BeginsWithMark, joined, AreCut, AreCutAtMarks, AreCutPlainly, IsPlain}
use Rattle.ux_tokens.specs.First.{BeginsWithNoLetter}
use Rattle.ux_tokens.specs.Cutting.{ReachTo}

-- what stands at a place of a list with one more element
pub slice_get-push_cases : {X : Type 0} (xs : List X) (y : X) (k : ℕ) (x : X) →
    slice_get (xs ++ y ∷ []) k ≡ Some x →
    ((k < length xs) × (slice_get xs k ≡ Some x)) ⊎ ((k ≡ length xs) × (y ≡ x))
slice_get-push_cases [] y zero x at = inr (refl, same_Some y x at)
slice_get-push_cases [] y (suc k) x at = absurd (none-some x at)
slice_get-push_cases (z ∷ xs) y zero x at = inl (omega arith, at)
slice_get-push_cases {X} (z ∷ xs) y (suc k) x at = later (slice_get-push_cases xs y k x at)
  where
    later : ((k < length xs) × (slice_get xs k ≡ Some x)) ⊎ ((k ≡ length xs) × (y ≡ x)) →
        ((suc k < length (z ∷ xs)) × (slice_get (z ∷ xs) (suc k) ≡ Some x)) ⊎
        ((suc k ≡ length (z ∷ xs)) × (y ≡ x))
    later (inl old) = inl (omega (arith, old.0), old.1)
    later (inr new) = inr (omega (arith, new.0), new.1)

-- a text that isn't empty has a first character
pub first_char : (text : List ℕ) → IsUtf8 text → text ≢ [] →
    (c : ℕ) × (rest : List ℕ) × (chars text ≡ c ∷ rest)
first_char text utf8 some = by (chars text) refl
  where
    by : (cs : List ℕ) → chars text ≡ cs → (c : ℕ) × (rest : List ℕ) × (chars text ≡ c ∷ rest)
    by [] is = absurd (some (sym (encodes-chars text utf8) ∙ ap encode_utf8_all is))
    by (c ∷ cs) is = (c, cs, is)

module _ (Are : List ℕ → List Token → Type 0) (text : List ℕ) where
  -- no token reaches to the whole text
  pub reach_start : ReachTo Are text text []
  reach_start more are = are

  -- with the token that stands there, tokens reach to what is after it
  pub reach_more : (rest after : List ℕ) (tokens : List Token) (token : Token) →
      ((more : List Token) → Are after more → Are rest (token ∷ more)) →
      ReachTo Are text rest tokens → ReachTo Are text after (tokens ++ token ∷ [])
  reach_more rest after tokens token next reach more are =
      subst (Are text) (sym (append_assoc tokens (token ∷ []) more))
      (reach (token ∷ more) (next more are))

  -- tokens that reach to the end are those of the text
  pub reach_end : (tokens : List Token) → ReachTo Are text [] tokens → Are [] [] → Are text tokens
  reach_end tokens reach none = subst (Are text) (append-nil tokens) (reach [] none)

module _ (alphabet : Letters) where
  -- a word begins with a letter
  word_begins : (text after : List ℕ) → IsWord alphabet text →
      BeginsWithNoLetter alphabet (text ++ after) → ⊥
  word_begins text after word none =
      let first = first_char text word.utf8 word.some in
      let all : chars (text ++ after) ≡ first.0 ∷ (first.1 ++ chars after) =
      chars-append text after word.utf8 ∙ ap (λ (l : List ℕ). l ++ chars after) first.2 in
      none first.0 (first.1 ++ chars after) all
      (All-head (IsLetter alphabet) first.0 first.1
      (subst (λ (l : List ℕ). All (IsLetter alphabet) l) first.2 word.letters))

  abbrev IsText : Token → Type 0
  IsText token = IsTokenText alphabet token.kind token.text

  -- no token is cut from no text
  none_cut : AreCut alphabet [] []
  none_cut = record {
    whole = refl;
    each = All-nil IsText;
    apart = λ runs k a b at_a at_b word. absurd (none-some a at_a);
  }

  pub none_at_marks : AreCutAtMarks alphabet [] []
  none_at_marks =
      record { cut = none_cut; marks = λ k a at brace begins. absurd (none-some a at) }

  pub none_plainly : AreCutPlainly alphabet [] []
  none_plainly =
      record { cut = none_cut; plain = All-nil (λ (token : Token). IsPlain token.kind) }

  -- a token stands at the front of the text, and the rest is what is after it
  module _ (text rest : List ℕ) (token : Token) (next : text ≡ token.text ++ rest)
      (is : IsText token)
      (longest : alphabet.single ≡ false → token.kind ≡ Word → BeginsWithNoLetter alphabet rest)
    where
      whole_is : (tokens : List Token) → joined tokens ≡ rest → joined (token ∷ tokens) ≡ text
      whole_is tokens whole = ap (λ (l : List ℕ). token.text ++ l) whole ∙ sym next

      cut_more : (tokens : List Token) → AreCut alphabet rest tokens →
          AreCut alphabet text (token ∷ tokens)
      cut_more tokens cut = record {
        whole = whole_is tokens cut.whole;
        each = All-cons IsText token tokens is cut.each;
        apart = apart tokens cut;
      }
        where
          -- the token and the first one after it
          beside : (tokens : List Token) → AreCut alphabet rest tokens → (b : Token) →
              alphabet.single ≡ false → slice_get tokens 0 ≡ Some b → token.kind ≡ Word →
              b.kind ≢ Word
          beside [] cut b runs at word = absurd (none-some b at)
          beside (first ∷ tokens) cut b runs at word = λ also.
              let kind : first.kind ≡ Word =
              ap (λ (t : Token). t.kind) (same_Some first b at) ∙ also in
              word_begins first.text (joined tokens)
              (subst (λ (k : Kind). IsTokenText alphabet k first.text) kind
              (All-head IsText first tokens cut.each))
              (subst (BeginsWithNoLetter alphabet) (sym cut.whole) (longest runs word))

          next_place : (k : ℕ) → suc k + 1 ≡ suc (k + 1)
          next_place k = omega arith

          apart : (tokens : List Token) → AreCut alphabet rest tokens → alphabet.single ≡ false →
              (k : ℕ) (a b : Token) → slice_get (token ∷ tokens) k ≡ Some a →
              slice_get (token ∷ tokens) (k + 1) ≡ Some b → a.kind ≡ Word → b.kind ≢ Word
          apart tokens cut runs zero a b at_a at_b word =
              beside tokens cut b runs at_b
              (ap (λ (t : Token). t.kind) (same_Some token a at_a) ∙ word)
          apart tokens cut runs (suc k) a b at_a at_b word =
              cut.apart runs k a b at_a
              (subst (λ (n : ℕ). slice_get (token ∷ tokens) n ≡ Some b) (next_place k) at_b) word

      -- where a mark begins, the token isn't its brace alone
      pub marked_more : (BeginsWithMark text → token.text ≢ OPENING_BRACE ∷ []) →
          (tokens : List Token) → AreCutAtMarks alphabet rest tokens →
          AreCutAtMarks alphabet text (token ∷ tokens)
      marked_more mark tokens are = record {
        cut = cut_more tokens are.cut;
        marks = marks;
      }
        where
          marks : (k : ℕ) (a : Token) → slice_get (token ∷ tokens) k ≡ Some a →
              a.text ≡ OPENING_BRACE ∷ [] → BeginsWithMark (joined (drop k (token ∷ tokens))) → ⊥
          marks zero a at brace begins =
              mark (subst BeginsWithMark (whole_is tokens are.cut.whole) begins)
              (ap (λ (t : Token). t.text) (same_Some token a at) ∙ brace)
          marks (suc k) a at brace begins = are.marks k a at brace begins

      pub plain_more : IsPlain token.kind → (tokens : List Token) →
          AreCutPlainly alphabet rest tokens → AreCutPlainly alphabet text (token ∷ tokens)
      plain_more plain tokens are = record {
        cut = cut_more tokens are.cut;
        plain = All-cons (λ (t : Token). IsPlain t.kind) token tokens plain are.plain;
      }
