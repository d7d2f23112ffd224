-- Indexes of a front's stands by the tokens that their literals fit. Inner: the crate's own
-- functions alone speak of it.
use Rattle.std.specs.Prelude.{◌≡◌, ◌↔◌, ◌⊎◌, ℕ, List, Contains, Some}
use Rattle.std.specs.List.Sorted.{IsNonDecreasingBy}
use Rattle.ux_closure.specs.declared.stand.Stand.{Stand}
use Rattle.ux_net.specs.declared.net_graph.NetGraph.{NetGraph}
use Rattle.ux_net.specs.declared.state.Edge.{Edge}
use Rattle.ux_tokens.specs.Numbers.{different_texts}
use Rattle.ux_walk.specs.declared.words.Words.{Words}
use Rattle.ux_walk.specs.Literals.{AreReady, FitsText, IsFitted, IsLiteral}
use Rattle.ux_automaton.specs.declared.front_index.Fitting.{Fitting}
use Rattle.ux_automaton.specs.declared.front_index.FrontIndex.{FrontIndex}
use Rattle.ux_automaton.specs.declared.front_indexes.FrontIndexes.{FrontIndexes}
use Rattle.ux_mask_table.specs.declared.masked_text.MaskedText.{MaskedText}
use Rattle.ux_automaton.specs.Fronts.{Store, HasStand, IsFrontIn}
use Rattle.ux_automaton.specs.Targets.{IsEdgeOf}

abbrev pub number_of : Fitting → ℕ
number_of fitting = fitting.number

abbrev pub stand_of : Fitting → Stand
stand_of fitting = fitting.stand

-- it is this stand, a literal of which fits the token
abbrev pub FitsOver : MaskedText → Stand → Fitting → Type 0
FitsOver masked stand fitting = (edge : Edge) × IsEdgeOf masked.net.now stand.here edge
    × (IsFitted masked.alphabet.now (different_texts masked.text.now) edge.label fitting.number
    × (fitting.stand ≡ stand))

-- an edge of the stand is no literal
abbrev pub HasOther : List NetGraph → Stand → Type 0
HasOther net stand = (edge : Edge) × IsEdgeOf net stand.here edge × (IsLiteral edge.label → ⊥)

-- Each of these stands is listed with each token that a literal of it fits, in the order of the
-- tokens' numbers, and stands apart if it has another edge.
pub record IsFrontIndex (masked : MaskedText) (IsThere : Stand → Type 0) (index : FrontIndex)
    : Type 0 where
  pub ordered : IsNonDecreasingBy number_of index.fittings.items
  pub fittings : (fitting : Fitting) → Contains index.fittings.items fitting
      ↔ ((stand : Stand) × IsThere stand × FitsOver masked stand fitting)
  pub others : (other : Stand) → Contains index.others.items other
      ↔ ((stand : Stand) × IsThere stand × ((other ≡ stand) × HasOther masked.net.now stand))

-- few of these stands: those of which a literal fits the text of the token, or that have another
-- edge
pub record AreLikely (masked : MaskedText) (text : List ℕ) (IsThere : Stand → Type 0)
    (few : List Stand) : Type 0 where
  pub among : (stand : Stand) → Contains few stand → IsThere stand
  pub enough : (stand : Stand) → IsThere stand → (edge : Edge) →
      IsEdgeOf masked.net.now stand.here edge →
      FitsText masked.alphabet.now edge.label text ⊎ (IsLiteral edge.label → ⊥) →
      Contains few stand

-- the words are those of the text, and each index is that of its front's stands
pub record AreFrontsIndexed (masked : MaskedText) (store : Store) (known : FrontIndexes)
    : Type 0 where
  pub ready : (words : Words) → known.words ≡ Some words →
      AreReady masked.alphabet.now (different_texts masked.text.now) words
  pub indexes : (front : ℕ) (index : FrontIndex) →
      Contains known.indexes.entries (front, index) →
      IsFrontIn store front × IsFrontIndex masked (HasStand store front) index
