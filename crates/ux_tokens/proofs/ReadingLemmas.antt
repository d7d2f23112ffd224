-- What is cut from a text with single spaces is read from the text.
use Rattle.std.proofs.Common.{◌≡◌, ℕ, ◌≤◌, Result, List, sym, ◌∙◌, ap, subst, length, arith}
use Rattle.std.specs.Result.{IsErrAnd, IfErr}
use Rattle.std.proofs.lemmas.Result.{err_from_is_err_and}
use Rattle.ux_alphabet.specs.Letters.{Letters}
use Rattle.ux_tokens.specs.declared.cutting.TheConstants.{MAX_TOKENS}
use Rattle.ux_tokens.specs.declared.text_error.TextError.{TextError}
use Rattle.ux_tokens.specs.declared.text_error.TextError.TheVariants.{TooManyTokens, NoMemory}
use Rattle.ux_tokens.specs.Tokens.{Token, AreCutAtMarks, AreTokens, with_single_spaces}
use Rattle.ux_tokens.specs.Cutting.{IsListing, RefusesCut}
use Rattle.ux_tokens.specs.TokenFile.{IsTokenFileOf, file_of}
use Rattle.ux_tokens.specs.Reading.{HasTooManyTokens, Refuses}
use Rattle.ux_tokens.proofs.UniqueLemmas.{tokens_unique}

-- what holds of an error holds of the result that a `?` returns it in
pub exit : {T : Type 0} (result : Result T TextError) (error : TextError)
    (P : TextError → Type 0) → IsErrAnd result (λ e. e ≡ error) → P error → IfErr result P
exit result error P returned holds =
    let is = err_from_is_err_and result returned in
    rw is.1 (subst P (sym is.2) holds)

-- a text whose tokens are few enough has no list of too many
pub few_tokens : (alphabet : Letters) (text : List ℕ) (tokens : List Token) →
    AreTokens alphabet text tokens → length tokens ≤ MAX_TOKENS →
    HasTooManyTokens alphabet text → ⊥
few_tokens alphabet text tokens are few many =
    let same : tokens ≡ many.0 = tokens_unique alphabet text tokens many.0 are many.1 in
    let long : length tokens ≡ length many.0 = ap length same in
    omega (arith, many.2)

module _ (alphabet : Letters) (text spaced : List ℕ) (is : spaced ≡ with_single_spaces text) where
  -- the tokens that are cut are those of the text
  pub tokens_are : (tokens : List Token) → AreCutAtMarks alphabet spaced tokens →
      AreTokens alphabet text tokens
  tokens_are tokens = subst (λ (t : List ℕ). AreCutAtMarks alphabet t tokens) is

  -- where they are few enough, the text has no list of too many
  pub no_longer : (tokens : List Token) → AreCutAtMarks alphabet spaced tokens →
      length tokens ≤ MAX_TOKENS → HasTooManyTokens alphabet text → ⊥
  no_longer tokens cut = few_tokens alphabet text tokens (tokens_are tokens cut)

  -- and what refuses the one refuses the other
  pub refused : (error : TextError) → RefusesCut alphabet spaced error →
      Refuses alphabet text error
  refused TooManyTokens many = (many.0, tokens_are many.0 many.1, many.2)
  refused NoMemory refuses = tt

  -- the texts of the tokens that are cut are the lines of the token file
  pub file_is : (texts : List (List ℕ)) (file : List ℕ) → IsListing alphabet spaced texts →
      file ≡ file_of texts → IsTokenFileOf alphabet text file
  file_is texts file listing printed = (
    listing.tokens,
    tokens_are listing.tokens listing.cut,
    listing.few,
    printed ∙ ap file_of listing.are,
  )
