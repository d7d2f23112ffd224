-- What a line says, by its characters one after another.
use Rattle.std.proofs.Common.{◌≡◌, ◌≤◌, ℕ, List, [], ◌∷◌, sym, ◌∙◌, ap, subst}
use Rattle.std.specs.Str.{chars}
use Rattle.ux_alphabet.specs.File.{RANGE_SIGN, characters_of, without_blanks, LineSays, nothing, single, pair, range}
use Rattle.ux_alphabet.specs.declared.line.Line.{Line}
use Rattle.ux_alphabet.specs.declared.line.Line.TheVariants.{Single, Pair, Range}

module _ (text trimmed : List ℕ) (is : trimmed ≡ without_blanks text) where
  characters : characters_of text ≡ chars trimmed
  characters = ap chars (sym is)

  pub says_nothing : chars trimmed ≡ [] → LineSays text []
  says_nothing none = nothing text (characters ∙ none)

  module _ (x : ℕ) (rest : List ℕ) (first : chars trimmed ≡ x ∷ chars rest) where
    pub says_single : chars rest ≡ [] → LineSays text (Single x ∷ [])
    says_single none = single text x (characters ∙ first ∙ ap (λ cs. x ∷ cs) none)

    module _ (y : ℕ) (later : List ℕ) (second : chars rest ≡ y ∷ chars later) where
      two : characters_of text ≡ x ∷ (y ∷ chars later)
      two = characters ∙ first ∙ ap (λ cs. x ∷ cs) second

      pub says_pair : chars later ≡ [] → LineSays text (Pair x y ∷ [])
      says_pair none = pair text x y (two ∙ ap (λ cs. x ∷ (y ∷ cs)) none)

      pub says_range : (z : ℕ) (end : List ℕ) (line : Line) → chars later ≡ z ∷ chars end →
          chars end ≡ [] → x ≡ RANGE_SIGN → line ≡ Range y z → y ≤ z → LineSays text (line ∷ [])
      says_range z end line third none sign means le =
          subst (λ (l : Line). LineSays text (l ∷ [])) (sym means)
          (range text y z (two ∙ ap (λ cs. x ∷ (y ∷ cs)) (third ∙ ap (λ cs. z ∷ cs) none)
          ∙ ap (λ s. s ∷ (y ∷ (z ∷ []))) sign) le)
