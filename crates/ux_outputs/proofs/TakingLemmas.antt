-- The spaces in front of tokens, one by one.
use Rattle.std.specs.Prelude.{◌≡◌, ℕ, ◌+◌, ◌-◌, ◌<◌, ◌≤◌, true, false, List, ◌∷◌, Some, cond, length, take, drop, slice_get, slice_range}
use Rattle.std.specs.List.{prefix_len}
use Rattle.std.proofs.Common.{◌∙◌, ap, suc, arith}
use Rattle.std.proofs.Math.Seq.{drop-cons}
use Rattle.std.proofs.lemmas.Option.{slice_get_within, get_or_from_slice_get}
use Rattle.std.proofs.lemmas.List.{length-take}
use Rattle.std.proofs.lemmas.List.Sums.{prefix_len-le-length}
use Rattle.ux_tokens.specs.Tokens.{Token}
use Rattle.ux_outputs.specs.Rendering.{is_space, past_spaces}

add-none : (n : ℕ) → n + 0 ≡ n
add-none n = omega arith

-- the tokens from a position to a later one begin with the token that stands there
pub slice_range-cons : (tokens : List Token) (p to : ℕ) (token : Token) →
    slice_get tokens p ≡ Some token → p < to →
    slice_range tokens p to ≡ token ∷ slice_range tokens (p + 1) to
slice_range-cons tokens p to token at lt =
    let within = slice_get_within tokens p token at in
    let front : drop p tokens ≡ token ∷ drop (p + 1) tokens =
    drop-cons tokens p token within
    ∙ (ap (λ (t : Token). t ∷ drop (suc p) tokens) (get_or_from_slice_get tokens p token token at)
    ∙ ap (λ n. token ∷ drop n tokens) (suc_is p)) in
    ap (take (to - p)) front ∙ ap (λ n. take n (token ∷ drop (p + 1) tokens)) (count p to lt)
  where
    suc_is : (n : ℕ) → suc n ≡ n + 1
    suc_is n = omega arith

    count : (p to : ℕ) → p < to → to - p ≡ suc (to - (p + 1))
    count p to lt = omega arith

-- no spaces begin where no token is left
pub past_spaces-end : (tokens : List Token) (to : ℕ) → past_spaces tokens to to ≡ to
past_spaces-end tokens to =
    ap (λ n. to + prefix_len (λ (token : Token). is_space token.kind) (take n (drop to tokens)))
    (none to)
    ∙ add-none to
  where
    none : (to : ℕ) → to - to ≡ 0
    none to = omega arith

module _ (tokens : List Token) (p to : ℕ) (token : Token) (at : slice_get tokens p ≡ Some token)
    (lt : p < to) where
  past_spaces-step : past_spaces tokens p to
      ≡ p + cond (is_space token.kind)
      (1 + prefix_len (λ (t : Token). is_space t.kind) (slice_range tokens (p + 1) to)) 0
  past_spaces-step =
      ap (λ l. p + prefix_len (λ (t : Token). is_space t.kind) l)
      (slice_range-cons tokens p to token at lt)

  -- a space is passed
  pub past_spaces-space : is_space token.kind ≡ true →
      past_spaces tokens p to ≡ past_spaces tokens (p + 1) to
  past_spaces-space is =
      past_spaces-step
      ∙ (ap (λ b. p + cond b
      (1 + prefix_len (λ (t : Token). is_space t.kind) (slice_range tokens (p + 1) to)) 0) is
      ∙ again p (prefix_len (λ (t : Token). is_space t.kind) (slice_range tokens (p + 1) to)))
    where
      again : (p n : ℕ) → p + (1 + n) ≡ (p + 1) + n
      again p n = omega arith

  -- another token ends them
  pub past_spaces-other : is_space token.kind ≡ false → past_spaces tokens p to ≡ p
  past_spaces-other is =
      past_spaces-step
      ∙ ap (λ b. p + cond b
      (1 + prefix_len (λ (t : Token). is_space t.kind) (slice_range tokens (p + 1) to)) 0) is
      ∙ add-none p

-- the position after the spaces lies between the two positions
pub past_spaces-within : (tokens : List Token) (from to : ℕ) → from ≤ to → to ≤ length tokens →
    (from ≤ past_spaces tokens from to) × (past_spaces tokens from to ≤ to)
past_spaces-within tokens from to le within =
    let most = prefix_len-le-length (λ (token : Token). is_space token.kind)
    (slice_range tokens from to) in
    let count = length-take (to - from) (drop from tokens) in
    (omega arith, omega (arith, most, count))
