-- How far the words of a text were gone along. Inner: the crate's own functions alone speak of it.
use Rattle.std.specs.Prelude.{◌≡◌, ◌↔◌, ◌⊎◌, ℕ, ◌<◌, Bool, true, List, Contains, Some, slice_get}
use Rattle.ux_marks.specs.declared.error.MorphError.TheVariants.{BadOutput}
use Rattle.ux_reasons.specs.declared.reason.Reason.{Reason}
use Rattle.ux_reasons.specs.declared.reason.Reason.TheVariants.{Morph}
use Rattle.ux_tokens.specs.Numbers.{different_texts}
use Rattle.ux_tokens.specs.Tokens.{Token}
use Rattle.ux_cmd_morpho.specs.Answering.{IsWordAt}

-- what is so was added
abbrev pub Adds : {A : Type 0} → (Is : A → Type 0) → (old new : List A) → Type 0
Adds Is old new = (x : _) → Contains new x ↔ (Contains old x ⊎ Is x)

module _ (tokens : List Token) where
  -- the word stands before the place
  abbrev pub IsWordBefore : (place : ℕ) → (word : List ℕ) → Type 0
  IsWordBefore place word = (k : ℕ) × (k < place) × IsWordAt tokens k word

  -- the word is marked by its number among the different tokens
  abbrev pub IsSeen : (seen : List Bool) → (word : List ℕ) → Type 0
  IsSeen seen word = (n : ℕ) × (slice_get seen n ≡ Some true)
      × (slice_get (different_texts tokens) n ≡ Some word)

  module _ (IsLine : (word line : List ℕ) → Type 0) (IsBad : (word : List ℕ) → Type 0) where
    -- of the words before the place those that are marked stand there, the lines are those of all, and none
    -- is bad
    pub record AreSoFar (place : ℕ) (seen : List Bool) (lines : List (List ℕ)) : Type 0 where
      pub before : (word : List ℕ) → IsSeen seen word → IsWordBefore place word
      pub exactly : (line : List ℕ) → Contains lines line
          ↔ ((word : List ℕ) × IsWordBefore place word × IsLine word line)
      pub good : (word : List ℕ) → IsWordBefore place word → IsBad word → ⊥

  -- the word at the place is bad
  abbrev pub RefusesWord : (IsBad : (word : List ℕ) → Type 0) → (graph : List ℕ) → (place : ℕ) →
      (file : List ℕ) → Reason → Type 0
  RefusesWord IsBad graph place file reason = (word : List ℕ) × IsWordAt tokens place word
      × IsBad word × (file ≡ graph) × (reason ≡ Morph (BadOutput word))
