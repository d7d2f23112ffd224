-- The hits of the finder in memory can be rewritten.
use Rattle.std.proofs.Common.{arith, ◌≡◌, ℕ, zero, suc, ◌<◌, List, [], ◌∷◌, subst, sym, length, get_or}
use Rattle.ux_cascade.specs.Rewriting.{CanRewrite, LiesIn}
use Rattle.ux_tokens.specs.Tokens.{Token}
use Rattle.ux_outputs.specs.declared.hit.Hit.{Hit}
use Rattle.ux_tests_cascade.specs.Fronts.{front_hits}

-- a hit of the first token lies in a text that has one
module _ (text : List ℕ) (token : Token) (tokens : List Token) where
  front_lies : (k : ℕ) (d : Hit) → k < length (front_hits text (token ∷ tokens)) →
      LiesIn (token ∷ tokens) (get_or (front_hits text (token ∷ tokens)) k d)
  front_lies zero d within = record { in_order = omega arith; within = omega arith }
  front_lies (suc k) d within = absurd (omega (arith, within))

fronts_fit : (text : List ℕ) (tokens : List Token) → CanRewrite tokens (front_hits text tokens)
fronts_fit text [] = record {
  lie = λ k d within. absurd (omega (arith, within));
  in_order = λ i j d lt within. absurd (omega (arith, within));
}
fronts_fit text (token ∷ tokens) = record {
  lie = front_lies text token tokens;
  in_order = λ i j d lt within. absurd (omega (arith, lt, within));
}

pub front_fits : (text : List ℕ) (tokens : List Token) (hits : List Hit) →
    hits ≡ front_hits text tokens → CanRewrite tokens hits
front_fits text tokens hits is =
    subst (λ (h : List Hit). CanRewrite tokens h) (sym is) (fronts_fit text tokens)
