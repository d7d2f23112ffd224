-- Small cases of the definitions, worked by hand.
use Rattle.std.proofs.Common.{arith, ◌≡◌, ℕ, zero, suc, ◌≤◌, List, [], ◌∷◌, refl}
use Rattle.std.specs.Prelude.{IsSomeAnd, codes, slice_get}
use Rattle.ux_tokens.specs.declared.kind.Kind.TheVariants.{Word, Space}
use Rattle.ux_tokens.specs.Tokens.{Token}
use Rattle.ux_lexical_tables.specs.Spans.{IsSpan, MayStand, text_of}

-- the text of three tokens
abbrev the_cat : List Token
the_cat = record { kind = Word; text = codes "the" } ∷ (record { kind = Space; text = codes " " }
    ∷ (record { kind = Word; text = codes "cat" } ∷ []))

text_of_all : text_of the_cat 0 2 ≡ codes "the cat"
text_of_all = refl

-- where each letter is a word, two letters are a span, whose entries are compound ones
abbrev two_letters : List Token
two_letters = record { kind = Word; text = codes "h" } ∷ (record { kind = Word; text = codes "e" }
    ∷ [])

text_of_letters : text_of two_letters 0 1 ≡ codes "he"
text_of_letters = refl

letter_there : (i : ℕ) → i ≤ 1 →
    IsSomeAnd (slice_get two_letters i) (λ token. MayStand token.kind)
letter_there zero le = tt
letter_there (suc zero) le = tt
letter_there (suc (suc i)) le = absurd (omega (arith, le))

span_of_letters : IsSpan two_letters 0 1
span_of_letters = record {
  in_order = omega arith;
  begins = tt;
  ends = tt;
  inside = λ i from to. letter_there i to;
}
