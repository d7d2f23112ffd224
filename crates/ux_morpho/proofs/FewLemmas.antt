-- A text has no more tokens than bytes.
use Rattle.std.proofs.Common.{arith, ◌≡◌, ◌≢◌, ℕ, suc, ◌<◌, ◌≤◌, Bool, true, false, List, [], ◌∷◌, ap, if◌then◌else◌, length, length-append, refl}
use Rattle.std.specs.Prelude.{All}
use Rattle.std.proofs.lemmas.Str.{length-encode, len_utf8_bounds}
use Rattle.ux_alphabet.specs.Letters.{Letters, is_separator}
use Rattle.ux_tokens.specs.declared.kind.Kind.{Kind}
use Rattle.ux_tokens.specs.declared.kind.Kind.TheVariants.{Word, Space, Other, Sentence, Stop, Tag}
use Rattle.ux_tokens.specs.Reading.{HasTooManyTokens}
use Rattle.ux_tokens.specs.Tokens.{IsTokenText, SPACE, Token, begins_with_separator, joined, with_single_spaces}

some_length : (text : List ℕ) → text ≢ [] → 0 < length text
some_length [] some = absurd (some refl)
some_length (b ∷ text) some = omega arith

-- no token is empty
token_some : (alphabet : Letters) (kind : Kind) (text : List ℕ) → IsTokenText alphabet kind text →
    0 < length text
token_some alphabet Word text is = some_length text is.some
token_some alphabet Space text is = let l = ap length is in omega (arith, l)
token_some alphabet Other text is =
    let l = ap length is.1 in
    let e = length-encode is.0 in
    let b = (len_utf8_bounds is.0).0 in
    omega (arith, l, e, b)
token_some alphabet Sentence text is = let l = ap length is in omega (arith, l)
token_some alphabet Stop text is = let l = ap length is in omega (arith, l)
token_some alphabet Tag text is = let l = ap length is.1.1 in omega (arith, l)

joined_long : (alphabet : Letters) (tokens : List Token) →
    All (λ token. IsTokenText alphabet token.kind token.text) tokens →
    length tokens ≤ length (joined tokens)
joined_long alphabet [] each = omega arith
joined_long alphabet (token ∷ tokens) each =
    let some = token_some alphabet token.kind token.text (each 0 token (omega arith)) in
    let more = joined_long alphabet tokens (λ k d low. each (suc k) d (omega (arith, low))) in
    let l = length-append token.text (joined tokens) in
    omega (arith, some, more, l)

one_space : (separates goes_on : Bool) (b : ℕ) (out : List ℕ) →
    length (if separates then (if goes_on then out else SPACE ∷ out) else b ∷ out)
    ≤ suc (length out)
one_space true true b out = omega arith
one_space true false b out = omega arith
one_space false goes_on b out = omega arith

spaces_short : (text : List ℕ) → length (with_single_spaces text) ≤ length text
spaces_short [] = omega arith
spaces_short (b ∷ text) =
    let one = one_space (is_separator b) (begins_with_separator text) b (with_single_spaces text) in
    let more = spaces_short text in
    omega (arith, one, more)

-- so a short one hasn't too many
pub few_letters : (alphabet : Letters) (text : List ℕ) → length text ≤ 67108864 →
    HasTooManyTokens alphabet text → ⊥
few_letters alphabet text low (tokens, are, more) =
    let many : 67108864 < length tokens = more in
    let l = joined_long alphabet tokens are.cut.each in
    let w = ap length are.cut.whole in
    let s = spaces_short text in
    omega (arith, low, many, l, w, s)
