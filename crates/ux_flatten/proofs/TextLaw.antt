-- Over a text no call takes anything, and neither does the text that stands in place of a call.
use Rattle.std.proofs.Common.{arith, ◌≡◌, ℕ, inl, inr, List, refl, sym, subst, ◌∙◌, ap, length, encode_utf8}
use Rattle.std.specs.Prelude.{Contains}
use Rattle.std.specs.Str.{chars}
use Rattle.std.proofs.lemmas.List.Elements.{All-contains}
use Rattle.std.proofs.lemmas.Str.{length-encode, len_utf8_bounds}
use Rattle.ux_base.proofs.OrderedLists.{Contains-at}
use Rattle.ux_alphabet.specs.Letters.{Letters, IsLetter}
use Rattle.ux_tokens.specs.declared.kind.Kind.{Kind}
use Rattle.ux_tokens.specs.declared.kind.Kind.TheVariants as kind
use Rattle.ux_tokens.specs.Tokens.{Token, IsTokenText, STOP}
use Rattle.ux_net.specs.declared.label.Label.TheVariants as label
use Rattle.ux_outputs.specs.Rendering.{skip}
use Rattle.ux_meaning.specs.Texts.{MayStandFor, Spans, text_input}
use Rattle.ux_flatten.specs.Flattening.{AreTokenTexts}

-- a brace is no letter
no_letter : (alphabet : Letters) → IsLetter alphabet 123 → ⊥
no_letter alphabet (inl upper) = let never = upper.0 in cc
no_letter alphabet (inr lower) = let never = lower.0 in cc

-- it begins the text in place of a call
brace_first : Contains (chars STOP) 123
unfolding chars
brace_first = (0, omega arith, refl)

-- which no word has, and no other character
not_stop : (alphabet : Letters) (kind_is : Kind) (text : List ℕ) →
    IsTokenText alphabet kind_is text → MayStandFor kind_is → text ≡ STOP → ⊥
not_stop alphabet kind.Word text is may same =
    no_letter alphabet (All-contains (IsLetter alphabet) (chars text) 123 is.letters
    (subst (λ t. Contains (chars t) 123) (sym same) brace_first))
not_stop alphabet kind.Other text is may same =
    let long : length (encode_utf8 is.0) ≡ 6 = ap length (sym is.1 ∙ same) in
    omega (arith, long, length-encode is.0, (len_utf8_bounds is.0).1)
not_stop alphabet kind.Space text is may same = may
not_stop alphabet kind.Sentence text is may same = may
not_stop alphabet kind.Stop text is may same = may
not_stop alphabet kind.Tag text is may same = may

module _ (alphabet : Letters) (tokens : List Token) (Accepts : Spans) where
  pub no_call : (h p k : ℕ) → (text_input alphabet tokens Accepts).Takes (label.Call h) p k → ⊥
  no_call h p k takes = takes

  pub no_stop : AreTokenTexts alphabet tokens → (p k : ℕ) →
      (text_input alphabet tokens Accepts).Takes (label.CaseExact STOP) p k → ⊥
  no_stop are p k takes =
      let token = takes.0 in
      not_stop alphabet token.kind token.text
      (All-contains (λ (token : Token). IsTokenText alphabet token.kind token.text) tokens token are
      (Contains-at tokens token (skip tokens p) takes.1)) takes.2.0 takes.2.1
