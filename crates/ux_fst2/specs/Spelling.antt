-- Which graphs can be printed so that they read back. Public: the crate's public contracts speak of
-- it.
use Rattle.std.specs.Prelude.{◌≡◌, ◌≢◌, ℕ, ◌==◌, ◌||◌, ◌<◌, ◌^◌, Bool, false, List, [], ◌∷◌, ◌++◌, All, AllPairs, Option, Some, None, length, map}
use Rattle.std.specs.List.{list_any}
use Rattle.ux_base.specs.Lines.{LINE_FEED, CARRIAGE_RETURN}
use Rattle.ux_grf.specs.declared.item.Piece.{Piece}
use Rattle.ux_grf.specs.declared.item.Piece.TheVariants.{Chars, Value}
use Rattle.ux_masks.specs.declared.lexical.Parts.{Parts}
use Rattle.ux_masks.specs.declared.mask.Mask.{Mask}
use Rattle.ux_masks.specs.declared.mask.Mask.TheVariants.{Lexical, NotLexical}
use Rattle.ux_net.specs.Nets.{IsEdgeInside}
use Rattle.ux_net.specs.declared.label.Label.{Label}
use Rattle.ux_net.specs.declared.label.Label.TheVariants as labels
use Rattle.ux_net.specs.declared.label.Label.TheVariants.{CaseFolded, CaseExact, Brace, Begin, End}
use Rattle.ux_net.specs.declared.state.Edge.{Edge}
use Rattle.ux_net.specs.declared.state.State.{State}
use Rattle.ux_net.specs.declared.state_graph.StateGraph.{StateGraph}
use Rattle.ux_fst2_file.specs.Printed.{IsLineText, IsName}
use Rattle.ux_fst2.specs.Files.{called}
use Rattle.ux_fst2.specs.Tags.{IsTag, tag_text}

-- a line feed or a carriage return is in the text
abbrev pub has_break : List ℕ → Bool
has_break text = list_any (λ b. b == LINE_FEED || b == CARRIAGE_RETURN) text

abbrev pub if_told : Option (List ℕ) → List (List ℕ)
if_told None = []
if_told (Some text) = text ∷ []

-- the texts of a mask: what a lexical one asks for
abbrev pub texts_of_parts : Parts → List (List ℕ)
texts_of_parts parts = if_told parts.form
    ++ (if_told parts.lemma ++ (parts.need ++ (parts.forbid ++ parts.infl)))

abbrev pub texts_of_mask : Mask → List (List ℕ)
texts_of_mask (Lexical parts) = texts_of_parts parts
texts_of_mask (NotLexical parts) = texts_of_parts parts
texts_of_mask other = []

-- those of a label and of a piece of an output
abbrev pub texts_of_label : Label → List (List ℕ)
texts_of_label (CaseFolded text) = text ∷ []
texts_of_label (CaseExact text) = text ∷ []
texts_of_label (labels.Mask mask) = texts_of_mask mask
texts_of_label (Brace text) = text ∷ []
texts_of_label (Begin name) = name ∷ []
texts_of_label (End name) = name ∷ []
texts_of_label other = []

abbrev pub text_of_piece : Piece → List ℕ
text_of_piece (Chars text) = text
text_of_piece (Value name) = name

-- no text of the label or of the output has a line feed or a carriage return
abbrev pub IsUnbroken : Label → List Piece → Type 0
IsUnbroken label output =
    list_any has_break (texts_of_label label ++ map text_of_piece output) ≡ false

-- some text of a tag says the label and the output, however it spells them
abbrev pub IsSaid : Label → List Piece → Type 0
IsSaid label output = (text : List ℕ) × IsTag text label output

-- the label and the output are said, and their tag, as it is printed, stands on a line
pub record IsSpellableTag (label : Label) (output : List Piece) : Type 0 where
  pub said : IsSaid label output
  pub line : IsLineText (tag_text label output)

-- a call puts nothing out, any other label has such a tag
abbrev pub IsSpellableBy : (calls : Option ℕ) → Label → List Piece → Type 0
IsSpellableBy None label output = IsSpellableTag label output
IsSpellableBy (Some graph) label output = output ≡ []

abbrev pub IsSpellableEdge : Edge → Type 0
IsSpellableEdge edge = IsSpellableBy (called edge.label) edge.label edge.output

-- of so many graphs, and as many states: the edges can be printed, and stay inside
pub record IsSpellableState (count states : ℕ) (state : State) : Type 0 where
  pub few : length state.edges < 2 ^ 32
  pub spelled : All IsSpellableEdge state.edges
  pub inside : All (IsEdgeInside count states) state.edges

-- of so many graphs: the name stands on a line, and there are states
pub record IsSpellableGraph (count : ℕ) (graph : StateGraph) : Type 0 where
  pub name_is : IsName graph.name
  pub some : 0 < length graph.states
  pub few : length graph.states < 2 ^ 32
  pub each : All (IsSpellableState count (length graph.states)) graph.states

-- 1 to 65,535 graphs, whose names differ
pub record AreSpellable (graphs : List StateGraph) : Type 0 where
  pub some : 0 < length graphs
  pub fits : length graphs < 65536
  pub each : All (IsSpellableGraph (length graphs)) graphs
  pub distinct : AllPairs (λ (one other : StateGraph). one.name ≢ other.name) graphs
