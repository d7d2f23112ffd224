-- The different tokens so far, and when the next token is a new one.
use Rattle.std.proofs.Common.{◌≡◌, ◌≢◌, ℕ, zero, suc, ◌<◌, Bool, true, false, List, [], ◌∷◌, ◌++◌, Option, None, Some, length, take, drop, refl, sym, ◌∙◌, ap, subst, arith}
use Rattle.std.specs.List.{flat_map, list_any, slice_get}
use Rattle.std.specs.Prelude.{Contains, IsSomeAnd}
use Rattle.std.specs.Str.{bytes_eq}
use Rattle.std.specs.Cmp.Lexicographic.{same_text}
use Rattle.std.proofs.lemmas.Grind.{flat_map-append}
use Rattle.std.proofs.lemmas.List.{append-nil, append_assoc, take-append-drop}
use Rattle.std.proofs.lemmas.Option.{none-some, same_Some, slice_get_read, slice_get_within}
use Rattle.indexmap.proofs.CallerLemmas.{Contains-list_any}
use Rattle.ux_tokens.specs.Tokens.{Token}
use Rattle.ux_base.specs.Distinct.{with_text}
use Rattle.ux_tokens.specs.Numbers.{different_texts}
use Rattle.ux_tokens.specs.TokenFile.{line_of}
use Rattle.ux_tokens.proofs.DistinctLemmas.{different_texts-once}
use Rattle.ux_base.proofs.DistinctLemmas.{with_text-keeps, with_text-known, with_text-new}
use Rattle.ux_tokens.proofs.PiecesLemmas.{different_texts-push}

-- the different texts of the first tokens
abbrev pub so_far : List Token → ℕ → List (List ℕ)
so_far tokens k = different_texts (take k tokens)

take-more : (tokens : List Token) (k : ℕ) (token : Token) → slice_get tokens k ≡ Some token →
    take (suc k) tokens ≡ take k tokens ++ token ∷ []
take-more [] k token at = absurd (none-some token at)
take-more (first ∷ tokens) zero token at =
    ap (λ (t : Token). t ∷ []) (same_Some first token at)
take-more (first ∷ tokens) (suc k) token at =
    ap (λ (l : List Token). first ∷ l) (take-more tokens k token at)

so_far-more : (tokens : List Token) (k : ℕ) (token : Token) → slice_get tokens k ≡ Some token →
    so_far tokens (suc k) ≡ with_text (so_far tokens k) token.text
so_far-more tokens k token at =
    ap different_texts (take-more tokens k token at)
    ∙ different_texts-push (take k tokens) token

-- what stands among the texts of the first tokens stands there among all
keeps : (front behind : List Token) (i : ℕ) (text : List ℕ) →
    slice_get (different_texts front) i ≡ Some text →
    slice_get (different_texts (front ++ behind)) i ≡ Some text
keeps front [] i text at =
    subst (λ (l : List Token). slice_get (different_texts l) i ≡ Some text)
    (sym (append-nil front)) at
keeps front (token ∷ behind) i text at =
    let more : slice_get (different_texts (front ++ token ∷ [])) i ≡ Some text =
    subst (λ (l : List (List ℕ)). slice_get l i ≡ Some text)
    (sym (different_texts-push front token))
    (with_text-keeps (different_texts front) token.text i text at) in
    subst (λ (l : List Token). slice_get (different_texts l) i ≡ Some text)
    (append_assoc front (token ∷ []) behind) (keeps (front ++ token ∷ []) behind i text more)

so_far-keeps : (tokens : List Token) (k i : ℕ) (text : List ℕ) →
    slice_get (so_far tokens k) i ≡ Some text → slice_get (different_texts tokens) i ≡ Some text
so_far-keeps tokens k i text at =
    subst (λ (l : List Token). slice_get (different_texts l) i ≡ Some text)
    (take-append-drop k tokens) (keeps (take k tokens) (drop k tokens) i text at)

slice_get-last : (texts : List (List ℕ)) (text : List ℕ) →
    slice_get (texts ++ text ∷ []) (length texts) ≡ Some text
slice_get-last [] text = refl
slice_get-last (first ∷ texts) text = slice_get-last texts text

-- a text that a test finds stands somewhere
found_at : (texts : List (List ℕ)) (text : List ℕ) → Contains texts text →
    (i : ℕ) × (slice_get texts i ≡ Some text)
found_at texts text there =
    (there.0, slice_get_read texts (length texts) there.0 text refl there.1 (sym there.2))

module _ (tokens : List Token) (k : ℕ) (token : Token) (at : slice_get tokens k ≡ Some token)
    (number : ℕ) (place : slice_get (different_texts tokens) number ≡ Some token.text) where
  -- a place among the texts so far is the token's number
  same_place : (i : ℕ) → slice_get (so_far tokens k) i ≡ Some token.text → i ≡ number
  same_place i there =
      different_texts-once tokens i number token.text
      (so_far-keeps tokens k i token.text there) place

  -- a new text is the next
  last_place : list_any (bytes_eq token.text) (so_far tokens k) ≡ false →
      length (so_far tokens k) ≡ number
  last_place new =
      let more : so_far tokens (suc k) ≡ so_far tokens k ++ token.text ∷ [] =
      so_far-more tokens k token at ∙ with_text-new (so_far tokens k) token.text new in
      different_texts-once tokens (length (so_far tokens k)) number token.text
      (so_far-keeps tokens (suc k) (length (so_far tokens k)) token.text
      (subst (λ (l : List (List ℕ)). slice_get l (length (so_far tokens k)) ≡ Some token.text)
      (sym more) (slice_get-last (so_far tokens k) token.text)))
      place

  known_place : list_any (bytes_eq token.text) (so_far tokens k) ≡ true →
      number < length (so_far tokens k)
  known_place known =
      let there = found_at (so_far tokens k) token.text
      (Contains-list_any bytes_eq (λ x y same. same_text x y (sym same)) (so_far tokens k)
      token.text known) in
      let within = slice_get_within (so_far tokens k) there.0 token.text there.1 in
      let same = same_place there.0 there.1 in
      omega (arith, within, same)

  -- the token whose number is that of the texts so far is a new one
  pub so_far-new : number ≡ length (so_far tokens k) →
      so_far tokens (suc k) ≡ so_far tokens k ++ token.text ∷ []
  so_far-new is = by (list_any (bytes_eq token.text) (so_far tokens k)) refl
    where
      by : (b : Bool) → list_any (bytes_eq token.text) (so_far tokens k) ≡ b →
          so_far tokens (suc k) ≡ so_far tokens k ++ token.text ∷ []
      by true known =
          let before = known_place known in
          absurd (omega (arith, before, is))
      by false new = so_far-more tokens k token at
          ∙ with_text-new (so_far tokens k) token.text new

  -- and any other token stood there before
  pub so_far-known : number ≢ length (so_far tokens k) → so_far tokens (suc k) ≡ so_far tokens k
  so_far-known apart = by (list_any (bytes_eq token.text) (so_far tokens k)) refl
    where
      by : (b : Bool) → list_any (bytes_eq token.text) (so_far tokens k) ≡ b →
          so_far tokens (suc k) ≡ so_far tokens k
      by true known = so_far-more tokens k token at
          ∙ with_text-known (so_far tokens k) token.text known
      by false new = absurd (apart (sym (last_place new)))

-- the lines of one text more
pub lines-more : (head : List ℕ) (texts : List (List ℕ)) (text : List ℕ) →
    head ++ flat_map line_of (texts ++ text ∷ []) ≡ head ++ flat_map line_of texts ++ line_of text
lines-more head texts text =
    ap (λ (l : List ℕ). head ++ l)
    (flat_map-append line_of texts (text ∷ [])
    ∙ ap (λ (l : List ℕ). flat_map line_of texts ++ l) (append-nil (line_of text)))
    ∙ sym (append_assoc head (flat_map line_of texts) (line_of text))

-- what holds of an answer that is there holds of some value
pub there : {X : Type 0} (o : Option X) (P : X → Type 0) → IsSomeAnd o P →
    (x : X) × (o ≡ Some x) × P x
there None P h = absurd h
there (Some x) P h = (x, refl, h)
