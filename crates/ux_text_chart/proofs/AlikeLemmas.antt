-- From a space and from behind it a label that doesn't ask for spaces takes the same.
use Rattle.std.proofs.Common.{◌≡◌, ℕ, ◌+◌, List, ◌↔◌, Some, sym, subst}
use Rattle.std.specs.Prelude.{slice_get}
use Rattle.ux_alphabet.specs.Letters.{Letters}
use Rattle.ux_tokens.specs.Tokens.{Token}
use Rattle.ux_net.specs.declared.label.Label.TheVariants as label
use Rattle.ux_lexical_tables.specs.Accepting.{Accepts}
use Rattle.ux_lexical_tables.specs.Tables.{Tables}
use Rattle.ux_outputs.specs.Rendering.{skip}
use Rattle.ux_meaning.specs.Texts.{FoldsTo, IsBraced, MayStandFor}
use Rattle.ux_chart.specs.Alike.{AreAlike}
use Rattle.ux_walk.specs.Settings.{applied_text}

module _ (alphabet : Letters) (tokens : List Token) (tables : Tables) (i k : ℕ)
    (same : skip tokens k ≡ skip tokens i) where
  -- what is told by what stands after an optional space
  both : (P : ℕ → Type 0) → P (skip tokens i) ↔ P (skip tokens k)
  both P = (subst P (sym same), subst P same)

  pub are_alike : AreAlike (applied_text alphabet tokens tables) i k
  are_alike (label.CaseFolded text) unspaced j = both (λ p. (token : Token)
      × (slice_get tokens p ≡ Some token)
      × (MayStandFor token.kind × FoldsTo alphabet text token) × (j ≡ p + 1))
  are_alike (label.CaseExact text) unspaced j = both (λ p. (token : Token)
      × (slice_get tokens p ≡ Some token)
      × (MayStandFor token.kind × (token.text ≡ text)) × (j ≡ p + 1))
  are_alike (label.Mask mask) unspaced j = both (λ p. Accepts alphabet tokens tables mask p j)
  are_alike (label.Brace text) unspaced j = both (λ p. (token : Token)
      × (slice_get tokens p ≡ Some token)
      × (IsBraced token.kind × (token.text ≡ text)) × (j ≡ p + 1))
  are_alike label.Space unspaced j = absurd (unspaced tt)
  are_alike x unspaced j = (λ t. absurd t, λ t. absurd t)
