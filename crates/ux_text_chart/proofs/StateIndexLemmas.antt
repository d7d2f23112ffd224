-- The places that an index of a state tells are enough at a position.
use Rattle.std.proofs.Common.{◌≡◌, ℕ, List, inl, inr, sym, ◌∙◌, subst}
use Rattle.std.specs.Prelude.{Some, slice_get}
use Rattle.std.proofs.lemmas.Option.{same_Some}
use Rattle.ux_alphabet.specs.Letters.{Letters}
use Rattle.ux_lexical_tables.specs.Tables.{Tables}
use Rattle.ux_net.specs.declared.label.Label.{Label}
use Rattle.ux_net.specs.declared.label.Label.TheVariants as label
use Rattle.ux_net.specs.declared.state.Edge.{Edge}
use Rattle.ux_outputs.specs.Rendering.{skip}
use Rattle.ux_tokens.specs.Tokens.{Token}
use Rattle.ux_meaning.specs.Texts.{Folds}
use Rattle.ux_chart.specs.Places.{AreEnough, Refuses}
use Rattle.ux_walk.specs.Literals.{FitsText, IsLiteral}
use Rattle.ux_walk.specs.LookUps as walk
use Rattle.ux_walk.specs.Settings.{applied_text}
use Rattle.ux_text_chart.specs.NetTables.{IsTokenAt}
use Rattle.ux_text_chart.specs.declared.net_tables.TokenAt.TheVariants.{Number}

module _ (alphabet : Letters) (tokens : List Token) (tables : Tables) where
  -- a literal that doesn't fit the token takes nothing
  refused : (token : Token) (p : ℕ) → slice_get tokens (skip tokens p) ≡ Some token →
      (x : Label) → IsLiteral x → (FitsText alphabet x token.text → ⊥) →
      Refuses (applied_text alphabet tokens tables) x p
  refused token p is (label.CaseFolded text) literal never = λ k (other, at, (stands, fits), end).
      never (subst (λ (t : Token). Folds alphabet text t.text)
      (same_Some other token (sym at ∙ is)) fits)
  refused token p is (label.CaseExact text) literal never = λ k (other, at, (stands, fits), end).
      never (subst (λ (t : Token). t.text ≡ text) (same_Some other token (sym at ∙ is)) fits)
  refused token p is x literal never = absurd literal

  pub kept_enough : (texts : List (List ℕ)) (edges : List Edge) (places : List ℕ) (p number : ℕ) →
      IsTokenAt texts tokens p (Number number) →
      ((text : List ℕ) → slice_get texts number ≡ Some text →
      walk.AreEnough alphabet text edges places) →
      AreEnough (applied_text alphabet tokens tables) edges places p
  kept_enough texts edges places p number (token, is, numbered) enough = λ place edge at.
      elim (enough token.text numbered place edge at) [
        | inl listed ↦ inl listed
        | inr (literal, never) ↦ inr (refused token p is edge.label literal never)
      ]
