-- Levels of the parts of a grammar: how deep its negative contexts nest through calls and bodies. A
-- part is a graph or a body, told by its graph and its first place. Public, through the meaning of
-- grammars.
use Rattle.std.specs.Prelude.{ℕ, ◌<◌, ◌≤◌, List, [], ◌∷◌}
use Rattle.ux_net.specs.declared.label.Label.TheVariants.{Call}
use Rattle.ux_net.specs.Words.{positive, negative, Letter, plain, context, Grammar, IsWord, IsBody}

module _ (grammar : Grammar) where
  -- what the letter enters has at most this level, and less in a negative context
  abbrev pub LetterLevel : (level : (g first : ℕ) → ℕ) → ℕ → Letter → Type 0
  LetterLevel level n (plain (Call h)) = level h (grammar.graph h).start ≤ n
  LetterLevel level n (context positive g opening closing) = level g opening ≤ n
  LetterLevel level n (context negative g opening closing) = level g opening < n
  LetterLevel level n letter = Unit {0}

  abbrev pub WordLevel : (level : (g first : ℕ) → ℕ) → ℕ → List Letter → Type 0
  WordLevel level n [] = Unit {0}
  WordLevel level n (letter ∷ word) = LetterLevel level n letter × WordLevel level n word

  -- each part has a level for its words, and all are below the top
  pub record HasLevels (level : (g first : ℕ) → ℕ) (top : ℕ) : Type 0 where
    pub of_graphs : (h : ℕ) (word : List Letter) → IsWord h (grammar.graph h) word →
        WordLevel level (level h (grammar.graph h).start) word
    pub of_bodies : (g opening closing : ℕ) (word : List Letter) →
        IsBody g (grammar.graph g) opening closing word → WordLevel level (level g opening) word
    pub below : (g opening : ℕ) → level g opening < top
