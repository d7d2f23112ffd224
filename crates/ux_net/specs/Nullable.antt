-- Words that may take nothing, and the graphs that have one. The manual, on graphs and on contexts.
-- Public: contracts of admission, and of the order of a net's parts, speak of it.
use Rattle.std.specs.Prelude.{◌≡◌, ℕ, List, [], ◌∷◌, true}
use Rattle.ux_net.specs.declared.label.Label.TheVariants.{Call}
use Rattle.ux_net.specs.Silent.{is_silent}
use Rattle.ux_net.specs.Words.{Letter, plain, piece, context, Grammar, IsWord}

-- a letter that takes no token, wherever it applies, and calls nothing: a silent label, a piece of
-- an output, or a whole context
abbrev pub IsSilent : Letter → Type 0
IsSilent (plain label) = is_silent label ≡ true
IsSilent (piece part) = Unit {0}
IsSilent (context sign g opening closing) = Unit {0}

module _ (grammar : Grammar) where
  -- a word that may take nothing: what it calls has such a word
  pub data IsFree : List Letter → Type 0 where
    none : IsFree []
    silent : {letter : Letter} {word : List Letter} → IsSilent letter → IsFree word →
        IsFree (letter ∷ word)
    call : {h : ℕ} {called word : List Letter} → IsWord h (grammar.graph h) called → IsFree called →
        IsFree word → IsFree (plain (Call h) ∷ word)

  -- the graph has a word that may take nothing
  pub record IsNullable (g : ℕ) : Type 0 where
    pub word : List Letter
    pub of_graph : IsWord g (grammar.graph g) word
    pub free : IsFree word
