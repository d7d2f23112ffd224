-- An order in which the parts of a grammar can be searched: ranks of states that do not rise along a
-- step that may take nothing. Public: the contracts of the table speak of it.
use Rattle.std.specs.Prelude.{◌≡◌, ℕ, ◌<◌, ◌≤◌, List, [], ◌∷◌}
use Rattle.ux_net.specs.declared.label.Label.{Label}
use Rattle.ux_net.specs.declared.label.Label.TheVariants as label
use Rattle.ux_net.specs.Nullable.{IsNullable}
use Rattle.ux_net.specs.Words.{Letter, plain, piece, context, Step, Grammar, IsBody}
use Rattle.ux_meaning.specs.Inputs.{Input}

-- labels that take something where they apply
abbrev pub IsTaking : Label → Type 0
IsTaking (label.CaseFolded text) = Unit {0}
IsTaking (label.CaseExact text) = Unit {0}
IsTaking (label.Mask mask) = Unit {0}
IsTaking (label.Brace text) = Unit {0}
IsTaking label.Space = Unit {0}
IsTaking x = ⊥

-- what is taken lies ahead, up to the last position
pub record GoesAhead (input : Input) (last : ℕ) : Type 0 where
  pub taking : {x : Label} {p k : ℕ} → input.Takes x p k → IsTaking x
  pub forward : {x : Label} {p k : ℕ} → input.Takes x p k → p < k
  pub within : {x : Label} {p k : ℕ} → input.Takes x p k → k ≤ last

-- Letters that stay where they stand. They are the silent ones of `IsFree`, but for the empty word,
-- which is no letter of a word.
abbrev pub MayStay : Letter → Type 0
MayStay (plain label.NoSpace) = Unit {0}
MayStay (plain (label.Begin name)) = Unit {0}
MayStay (plain (label.End name)) = Unit {0}
MayStay (plain label.Cut) = Unit {0}
MayStay (piece part) = Unit {0}
MayStay (context sign g opening closing) = Unit {0}
MayStay letter = ⊥

module _ (grammar : Grammar) where
  -- each step has one label
  pub record AreSingle : Type 0 where
    pub single : (g : ℕ) (s : Step) → (grammar.graph g).IsStep s → (x : Label) × (s.labels ≡ x ∷ [])

  module _ (rank : (g state : ℕ) → ℕ) where
    -- wherever a body that begins at the state is closed into, the rank is no higher than this
    abbrev pub IsClosedBelow : (g opening bound : ℕ) → Type 0
    IsClosedBelow g opening bound =
        (c : ℕ) (word : List Letter) → IsBody g (grammar.graph g) opening c word → rank g c ≤ bound

    -- What holds of a step. What it enters ranks lower, and where it may take nothing the rank does
    -- not rise.
    abbrev pub NeverRises : (g from to : ℕ) → Label → Type 0
    NeverRises g from to label.Empty = rank g to ≤ rank g from
    NeverRises g from to label.NoSpace = rank g to ≤ rank g from
    NeverRises g from to (label.Begin name) = rank g to ≤ rank g from
    NeverRises g from to (label.End name) = rank g to ≤ rank g from
    NeverRises g from to label.Cut = rank g to ≤ rank g from
    NeverRises g from to (label.Call h) =
        (rank h (grammar.graph h).start < rank g from)
        × (IsNullable grammar h → rank g to ≤ rank g from)
    NeverRises g from to label.Positive =
        (rank g to < rank g from) × IsClosedBelow g to (rank g from)
    NeverRises g from to label.Negative =
        (rank g to < rank g from) × IsClosedBelow g to (rank g from)
    NeverRises g from to x = Unit {0}

    -- each step is so
    pub record IsOrdered : Type 0 where
      pub falls : (g : ℕ) (s : Step) (x : Label) → (grammar.graph g).IsStep s →
          s.labels ≡ x ∷ [] → NeverRises g s.from s.to x
