-- A text as an input, and where labels lead in it. Public: the contracts of the chart of a text speak
-- of it.
use Rattle.std.specs.Prelude.{ℕ, List}
use Rattle.ux_alphabet.specs.Letters.{Letters}
use Rattle.ux_tokens.specs.Tokens.{Token}
use Rattle.ux_net.specs.declared.label.Label.{Label}
use Rattle.ux_net.specs.declared.label.Label.TheVariants.{CaseFolded, CaseExact, Mask, Brace, Space}
use Rattle.ux_meaning.specs.Inputs.{Input}
use Rattle.ux_meaning.specs.Texts.{text_input}
use Rattle.ux_walk.specs.Settings.{Setting, applied_text}

-- the setting as an input
abbrev pub input_of : Setting → Input
input_of setting = applied_text setting.alphabet setting.tokens setting.tables

-- the tokens of a text as an input in which no mask accepts anything
abbrev pub without_masks : Letters → List Token → Input
without_masks alphabet tokens = text_input alphabet tokens (λ mask from to. ⊥)

-- the label takes what stands at the position; of one that may take nothing no more is asked
abbrev pub MayLead : Input → Label → ℕ → Type 0
MayLead input (CaseFolded text) i = (k : ℕ) × input.Takes (CaseFolded text) i k
MayLead input (CaseExact text) i = (k : ℕ) × input.Takes (CaseExact text) i k
MayLead input (Mask mask) i = (k : ℕ) × input.Takes (Mask mask) i k
MayLead input (Brace text) i = (k : ℕ) × input.Takes (Brace text) i k
MayLead input Space i = (k : ℕ) × input.Takes Space i k
MayLead input other i = Unit {0}
