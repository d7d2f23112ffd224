-- What the searches for the first box answer. Inner: the crate's own functions alone speak of it.
use Rattle.std.specs.Prelude.{◌≡◌, ◌≢◌, ℕ, ◌+◌, ◌*◌, ◌<◌, ◌⊎◌, Bool, true, false, ◌&&◌, Any, List, Option, Some, None, length}
use Rattle.std.specs.List.{list_any}
use Rattle.ux_digraph.specs.Rules.{is_marked_at}
use Rattle.ux_grf.specs.declared.graph.Graph.{Graph}
use Rattle.ux_grf.specs.declared.item.Item.{Item}
use Rattle.ux_grf.specs.declared.item.Item.TheVariants as item
use Rattle.ux_grf.specs.WellFormed.{box_of_graph}
use Rattle.ux_rules.specs.declared.step.Sign.{Sign}
use Rattle.ux_rules.specs.Phases.{bad_at, is_bad_item_at, is_short_at}
use Rattle.ux_rules.specs.Refusing.{IsFirst}
use Rattle.ux_rules.specs.Words.{mark_of}

-- the first box of which it is so, or none is
abbrev pub FindsFirst : Graph → (ℕ → Type 0) → Option ℕ → Type 0
FindsFirst graph IsSo None = (node : ℕ) → node < length graph.boxes → IsSo node → ⊥
FindsFirst graph IsSo (Some node) = (node < length graph.boxes) × IsFirst IsSo node

-- the item isn't empty
abbrev pub is_some_item : Item → Bool
is_some_item item.Empty = false
is_some_item other = true

-- the line with this mark or none is bad in the phase
abbrev pub is_bad_by : Option Sign → List Item → (phase : ℕ) → Bool
is_bad_by None line phase = list_any is_some_item line && is_bad_item_at phase
is_bad_by (Some mark) line phase = bad_at phase mark

abbrev pub is_bad_line_at : (phase : ℕ) → List Item → Bool
is_bad_line_at phase line = is_bad_by (mark_of line) line phase

-- the box is bad in the phase
abbrev pub IsBadIn : Graph → (node phase : ℕ) → Type 0
IsBadIn graph node phase = ((node ≡ 1) × (is_short_at phase ≡ true))
    ⊎ ((node ≢ 1) × Any (λ line. is_bad_line_at phase line ≡ true) (box_of_graph graph node).lines)

-- the box is reached in a phase in which it is bad
abbrev pub IsBadByPhases : Graph → List Bool → ℕ → Type 0
IsBadByPhases graph found node = (phase : ℕ) × (phase < 9)
    × (is_marked_at found (node * 9 + phase) ≡ true) × IsBadIn graph node phase
