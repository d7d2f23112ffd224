-- An index of the parts of a net by the tokens at which they may begin. Public: the contracts of the
-- chart of a text speak of it.
use Rattle.std.specs.Prelude.{◌≡◌, ℕ, ◌+◌, ◌*◌, ◌<◌, ◌≤◌, ◌⊎◌, List, Option, None, Some, slice_get, Contains, IsTrue, length}
use Rattle.std.specs.List.Sorted.{IsNonDecreasing, IsNonDecreasingBy}
use Rattle.ux_alphabet.specs.Letters.{Letters}
use Rattle.ux_net.specs.declared.net_graph.NetGraph.{NetGraph}
use Rattle.ux_net.specs.declared.state.Edge.{Edge}
use Rattle.ux_net.specs.declared.state.State.{State}
use Rattle.ux_net.specs.Nets.{states_of}
use Rattle.ux_parts.specs.declared.part.Part.{Part}
use Rattle.ux_parts.specs.declared.parts.Parts.{Parts}
use Rattle.ux_walk.specs.Literals.{IsFitted, IsLiteral}
use Rattle.ux_text_chart.specs.declared.part_index.Beginning.{Beginning}
use Rattle.ux_text_chart.specs.declared.part_index.PartIndex.{PartIndex}
use Rattle.ux_text_chart.specs.declared.net_tables.TokenAt.{TokenAt}
use Rattle.ux_text_chart.specs.declared.net_tables.TokenAt.TheVariants.{Number, Unknown, End}

-- the part of a number may begin at the token of a number
abbrev pub begins_at : (token part : ℕ) → Beginning
begins_at token part = record { token = token; part = part }

-- by token, and by part where the tokens are equal
abbrev pub order_of : Beginning → ℕ
order_of beginning = beginning.token * 4294967296 + beginning.part

-- all edges of the state are literals, and it isn't final
pub record IsLiteralState (state : State) : Type 0 where
  pub not_final : IsTrue state.is_final → ⊥
  pub literals : (edge : Edge) → Contains state.edges edge → IsLiteral edge.label

module _ (alphabet : Letters) (texts : List (List ℕ)) where
  -- the literal's part is listed with each token that the literal fits
  abbrev pub AreListed : List Beginning → (part : ℕ) → Edge → Type 0
  AreListed beginnings part edge = (token : ℕ) →
      IsFitted alphabet texts edge.label token → Contains beginnings (begins_at token part)

  -- the part is tried everywhere, or at each token that a literal of its first state fits
  abbrev pub IsIndexed : List Beginning → List ℕ → (part : ℕ) → State → Type 0
  IsIndexed beginnings everywhere part state = Contains everywhere part
      ⊎ (IsLiteralState state
      × ((edge : Edge) → Contains state.edges edge → AreListed beginnings part edge))

  module _ (net : List NetGraph) (parts : Parts) where
    -- each part below a number is indexed, and no other is listed apart yet
    pub record AreIndexed (bound : ℕ) (beginnings : List Beginning) (everywhere : List ℕ) : Type 0
      where
        pub few : bound ≤ 4294967296
        pub rises : IsNonDecreasing everywhere
        pub below : (number : ℕ) → Contains everywhere number → number < bound
        pub each : (number : ℕ) (part : Part) (state : State) → number < bound →
            slice_get parts.list number ≡ Some part →
            slice_get (states_of net part.graph) part.first ≡ Some state →
            IsIndexed beginnings everywhere number state

    -- each part is indexed, and the lists are in order
    pub record IsPartIndex (index : PartIndex) : Type 0 where
      pub few : length parts.list ≤ 4294967296
      pub count : index.count ≡ length parts.list
      pub ordered : IsNonDecreasingBy order_of index.beginnings.items
      pub rises : IsNonDecreasing index.everywhere.items
      pub each : (number : ℕ) (part : Part) (state : State) →
          slice_get parts.list number ≡ Some part →
          slice_get (states_of net part.graph) part.first ≡ Some state →
          IsIndexed index.beginnings.items index.everywhere.items number state

-- the part is tried everywhere, or at the token; where that is unknown, each part is
abbrev pub IsTried : PartIndex → TokenAt → (part : ℕ) → Type 0
IsTried index (Number number) part = Contains index.everywhere.items part
    ⊎ Contains index.beginnings.items (begins_at number part)
IsTried index Unknown part = part < index.count
IsTried index End part = Contains index.everywhere.items part

-- the number, where there is one, is no later than this one
abbrev pub IsNoLater : Option ℕ → ℕ → Type 0
IsNoLater None number = ⊥
IsNoLater (Some found) number = found ≤ number
