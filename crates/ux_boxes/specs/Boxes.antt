-- The boxes of graphs, seen as places and steps. The manual, on graphs. Public: the crate's public
-- contracts speak of it.
use Rattle.std.specs.Prelude.{◌≡◌, ◌≢◌, ℕ, zero, suc, ◌+◌, List, [], ◌∷◌, ◌++◌, Option, Some, slice_get, Contains, map, length, Bool, true, false}
use Rattle.std.specs.Option.{option_map_or}
use Rattle.ux_alphabet.specs.Letters.{Letters}
use Rattle.ux_tokens.specs.declared.kind.Kind.{Kind}
use Rattle.ux_tokens.specs.declared.kind.Kind.TheVariants as kind
use Rattle.ux_tokens.specs.Tokens.{Token, ArePlainTokens}
use Rattle.ux_grf.specs.declared.graph.GrfBox.{GrfBox}
use Rattle.ux_grf.specs.declared.item.Item.{Item}
use Rattle.ux_grf.specs.declared.item.Piece.{Piece}
use Rattle.ux_grf.specs.declared.item.Item.TheVariants as item
use Rattle.ux_masks.specs.Texts.{IsMaskText}
use Rattle.ux_masks.specs.declared.mask.Mask as masks
use Rattle.ux_net.specs.declared.label.Label.{Label}
use Rattle.ux_net.specs.declared.label.Label.TheVariants.{Empty, CaseFolded, CaseExact, Mask, Brace, Space, NoSpace, Begin, End, Positive, Negative, ContextEnd, Cut, Call}
use Rattle.ux_net.specs.Words.{Step, StepGraph, Grammar}

-- a graph of the list: its name, by which others call it, and its boxes
pub record Drawn : Type 0 where
  pub name : List ℕ
  pub boxes : List GrfBox

-- a piece of a literal: a space, or a token that the piece's characters fit
abbrev pub fold_label : Kind → List ℕ → Label
fold_label kind.Space text = Space
fold_label _ text = CaseFolded text

-- a piece of a quoted text: a space, or a token of exactly this text
abbrev pub exact_label : Kind → List ℕ → Label
exact_label kind.Space text = Space
exact_label _ text = CaseExact text

-- a text is cut into tokens, in which a brace is a character as any other, and each is a label
abbrev pub IsCut : Letters → (Kind → List ℕ → Label) → List ℕ → List Label → Type 0
IsCut alphabet label_of text labels =
    (tokens : List Token) × ArePlainTokens alphabet text tokens
    × (labels ≡ map (λ token. label_of token.kind token.text) tokens)

-- an item as labels; a call by the number of its graph
abbrev pub IsSplit : Letters → List (List ℕ) → Item → List Label → Type 0
IsSplit alphabet names (item.Literal text) labels = IsCut alphabet fold_label text labels
IsSplit alphabet names (item.Quoted text) labels = IsCut alphabet exact_label text labels
IsSplit alphabet names (item.Mask text) labels =
    (mask : masks.Mask) × IsMaskText text mask × (labels ≡ Mask mask ∷ [])
IsSplit alphabet names (item.Brace text) labels = labels ≡ Brace text ∷ []
IsSplit alphabet names item.NoSpace labels = labels ≡ NoSpace ∷ []
IsSplit alphabet names item.Empty labels = labels ≡ Empty ∷ []
IsSplit alphabet names (item.Call name) labels =
    (k : ℕ) × (slice_get names k ≡ Some name) × (labels ≡ Call (k + 1) ∷ [])
IsSplit alphabet names (item.Begin name) labels = labels ≡ Begin name ∷ []
IsSplit alphabet names (item.End name) labels = labels ≡ End name ∷ []
IsSplit alphabet names item.Positive labels = labels ≡ Positive ∷ []
IsSplit alphabet names item.Negative labels = labels ≡ Negative ∷ []
IsSplit alphabet names item.ContextEnd labels = labels ≡ ContextEnd ∷ []
IsSplit alphabet names item.Cut labels = labels ≡ Cut ∷ []

-- a line of items as labels
abbrev pub IsSplitLine : Letters → List (List ℕ) → List Item → List Label → Type 0
IsSplitLine alphabet names [] labels = labels ≡ []
IsSplitLine alphabet names (item ∷ items) labels =
    (front back : List Label) × IsSplit alphabet names item front
    × IsSplitLine alphabet names items back × (labels ≡ front ++ back)

-- the lines of a box, where there is one
abbrev pub box_lines_in : Option GrfBox → List (List Item)
box_lines_in box = option_map_or (λ (b : GrfBox). b.lines) box []

-- the targets of a box, where there is one
abbrev pub box_targets_in : Option GrfBox → List ℕ
box_targets_in box = option_map_or (λ (b : GrfBox). b.targets) box []

-- the lines of a box: box 0 counts as one empty line, box 1 has none
abbrev pub lines_at : List GrfBox → ℕ → List (List Item)
lines_at boxes zero = (item.Empty ∷ []) ∷ []
lines_at boxes (suc zero) = []
lines_at boxes (suc (suc n)) = box_lines_in (slice_get boxes (suc (suc n)))

-- the targets of the box of this number
abbrev pub targets_at : List GrfBox → ℕ → List ℕ
targets_at boxes n = box_targets_in (slice_get boxes n)

-- what a box puts out, where there is one
abbrev pub output_in : Option GrfBox → List Piece
output_in box = option_map_or (λ (b : GrfBox). b.output) box []

-- what the box of this number puts out: boxes 0 and 1 nothing
abbrev pub output_at : List GrfBox → ℕ → List Piece
output_at boxes zero = []
output_at boxes (suc zero) = []
output_at boxes (suc (suc n)) = output_in (slice_get boxes (suc (suc n)))

-- whether a box is reached, where there is one
abbrev pub box_reached_in : Option GrfBox → Bool
box_reached_in box = option_map_or (λ (b : GrfBox). b.reached) box false

-- a step into a target, with its output and along one of its lines; nothing leads on from box 1, the
-- end
pub record IsBoxStep (alphabet : Letters) (names : List (List ℕ)) (boxes : List GrfBox)
    (step : Step) : Type 0 where
  pub before_end : step.from ≢ 1
  pub leads : Contains (targets_at boxes step.from) step.to
  pub line : List Item
  pub of_box : Contains (lines_at boxes step.to) line
  pub puts : step.output ≡ output_at boxes step.to
  pub splits : IsSplitLine alphabet names line step.labels

-- The boxes that are reached as places, but for box 1: box 0 is the start, and a run ends where box
-- 1 is a target.
abbrev pub box_graph : Letters → List (List ℕ) → List GrfBox → StepGraph
box_graph alphabet names boxes = record {
  start = 0;
  IsPlace = λ place. (place ≢ 1) × (box_reached_in (slice_get boxes place) ≡ true);
  IsEnd = λ place. (place ≢ 1) × Contains (targets_at boxes place) 1;
  IsStep = IsBoxStep alphabet names boxes;
}

abbrev pub names_of : List Drawn → List (List ℕ)
names_of graphs = map (λ (graph : Drawn). graph.name) graphs

-- the boxes of a graph, where there is one
abbrev pub boxes_in : Option Drawn → List GrfBox
boxes_in graph = option_map_or (λ (g : Drawn). g.boxes) graph []

-- the boxes of the graph of this number, counted from 1
abbrev pub boxes_of : List Drawn → ℕ → List GrfBox
boxes_of graphs zero = []
boxes_of graphs (suc n) = boxes_in (slice_get graphs n)

-- the graphs as they are drawn, in order, of which the first is the main graph
abbrev pub box_grammar : Letters → List Drawn → Grammar
box_grammar alphabet graphs = record {
  count = length graphs;
  graph = λ g. box_graph alphabet (names_of graphs) (boxes_of graphs g);
}
