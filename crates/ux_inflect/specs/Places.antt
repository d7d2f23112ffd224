-- The configurations of a search: where it stands in the graphs, the form and the output so far, and
-- where each step leads. Inner: the crate's own functions alone speak of it.
use Rattle.std.specs.Prelude.{ℕ, ◌==◌, List, [], ◌∷◌, ◌++◌, Option, Some, None, Bool, true, false, if◌then◌else◌, chars, map, reverse, option_map, slice_get, string_bytes}
use Rattle.std.specs.List.{flat_map}
use Rattle.ux_dela.specs.Signs.{COLON}
use Rattle.ux_grf.specs.declared.item.Piece.{Piece}
use Rattle.ux_grf.specs.declared.item.Piece.TheVariants.{Chars}
use Rattle.ux_net.specs.declared.label.Label.{Label}
use Rattle.ux_net.specs.declared.label.Label.TheVariants.{CaseFolded, CaseExact, Call}
use Rattle.ux_net.specs.declared.net_graph.NetGraph.{NetGraph}
use Rattle.ux_net.specs.declared.state.Edge.{Edge}
use Rattle.ux_net.specs.declared.state.State.{State}
use Rattle.ux_net.specs.Nets.{states_of}
use Rattle.ux_inflect.specs.declared.codes.CodeState.{CodeState}
use Rattle.ux_inflect.specs.declared.codes.CodeState.TheVariants.{Nothing, AtColon, InCode, Broken}
use Rattle.ux_inflect.specs.declared.config.Config.{Config}
use Rattle.ux_inflect.specs.declared.config.Frame.{Frame}
use Rattle.ux_inflect.specs.declared.form.Form.{Form}
use Rattle.ux_inflect.specs.declared.stepping.Successor.{Successor}
use Rattle.ux_inflect.specs.declared.stroke.Detail.{Detail}
use Rattle.ux_inflect.specs.declared.stroke.Detail.TheVariants.{Whole, Outline}
use Rattle.ux_inflect.specs.declared.stroke.Stroke.{Stroke}
use Rattle.ux_inflect.specs.declared.stroke.Stroke.TheVariants.{Write}
use Rattle.ux_inflect.specs.declared.stroke.Taking.{Taking}
use Rattle.ux_inflect.specs.declared.stroke.Taking.TheVariants.{Literal, Quoted}
use Rattle.ux_inflect.specs.Strokes.{Cursor, all_stroked, stroke_of}

-- the form that the two stacks are
abbrev pub cursor_of : Form → Cursor
cursor_of form = record { left = reverse form.left.items; right = reverse form.right.items }

-- a character, or one that stands for any
abbrev pub kept_by : Detail → ℕ → ℕ
kept_by Whole c = c
kept_by Outline c = 45

abbrev pub outlined : Detail → Cursor → Cursor
outlined detail cursor = record {
  left = map (kept_by detail) cursor.left;
  right = map (kept_by detail) cursor.right;
}

abbrev pub outlined_stroke : Detail → Stroke → Stroke
outlined_stroke detail (Write c) = Write (kept_by detail c)
outlined_stroke detail stroke = stroke

-- what a character does
abbrev pub stroke_by : Taking → Detail → ℕ → Stroke
stroke_by Literal detail c = outlined_stroke detail (stroke_of c)
stroke_by Quoted detail c = Write (kept_by detail c)

-- what a label reads
abbrev pub text_of : Label → List ℕ
text_of (CaseFolded text) = text
text_of (CaseExact text) = text
text_of label = []

-- how a label's text is taken, where it has one
abbrev pub taking_of : Label → Option Taking
taking_of (CaseFolded text) = Some Literal
taking_of (CaseExact text) = Some Quoted
taking_of label = None

abbrev pub strokes_taken : Detail → Option Taking → List ℕ → List Stroke
strokes_taken detail None text = []
strokes_taken detail (Some taking) text = map (stroke_by taking detail) (chars text)

-- what a label does
abbrev pub strokes_in : Detail → Label → List Stroke
strokes_in detail label = strokes_taken detail (taking_of label) (text_of label)

-- what a piece puts out
abbrev pub put_of : Piece → List ℕ
put_of (Chars text) = text
put_of piece = []

-- the output, where it is kept
abbrev pub output_in : Detail → List Piece → List ℕ
output_in Whole pieces = flat_map put_of pieces
output_in Outline pieces = []

-- how far codes are read after one more byte, and after a text
abbrev pub after_byte : CodeState → ℕ → CodeState
after_byte Nothing b = if b == COLON then AtColon else Broken
after_byte AtColon b = if b == COLON then Broken else InCode
after_byte InCode b = if b == COLON then AtColon else InCode
after_byte Broken b = Broken

abbrev pub after_text : CodeState → List ℕ → CodeState
after_text state [] = state
after_text state (b ∷ text) = after_text (after_byte state b) text

-- A place of a search: the states to go on from, the innermost first, which are those behind calls
-- but for the first; the form, unless it is lost; the output; and how far its codes are read.
pub record Place : Type 0 where
  pub frames : List Frame
  pub cursor : Option Cursor
  pub output : List ℕ
  pub codes : CodeState

abbrev pub place_of : Config → Place
place_of config = record {
  frames = reverse config.frames.items;
  cursor = option_map cursor_of config.form;
  output = string_bytes config.output;
  codes = config.codes;
}

-- the frames behind an edge: its end, and above it the start of a graph that it calls
abbrev pub entered : Label → (g target : ℕ) → List Frame → List Frame
entered (Call h) g target below =
    record { graph = h; state = 0 } ∷ record { graph = g; state = target } ∷ below
entered label g target below = record { graph = g; state = target } ∷ below

-- the place behind an edge
abbrev pub along_edge : Detail → (g : ℕ) → List Frame → Place → Edge → List ℕ × Place
along_edge detail g below place edge = (
  text_of edge.label,
  record {
    frames = entered edge.label g edge.target below;
    cursor = all_stroked (strokes_in detail edge.label) place.cursor;
    output = place.output ++ output_in detail edge.output;
    codes = after_text place.codes (flat_map put_of edge.output);
  },
)

-- where a final state returns to
abbrev pub returning : List Frame → Place → Bool → List (List ℕ × Place)
returning below place true = ([], record place { frames = below }) ∷ []
returning below place false = []

abbrev pub from_state : Detail → (g : ℕ) → List Frame → Place → Option State → List (List ℕ × Place)
from_state detail g below place None = []
from_state detail g below place (Some state) =
    returning below place state.is_final ++ map (along_edge detail g below place) state.edges

abbrev pub from_frames : Detail → List NetGraph → Place → List Frame → List (List ℕ × Place)
from_frames detail net place [] = []
from_frames detail net place (frame ∷ below) =
    from_state detail frame.graph below place (slice_get (states_of net frame.graph) frame.state)

-- the steps from a place: what each reads, and where it leads
abbrev pub next : Detail → List NetGraph → Place → List (List ℕ × Place)
next detail net place = from_frames detail net place place.frames

-- a step as the search has it
abbrev pub step_of : Successor → List ℕ × Place
step_of successor = (successor.text, place_of successor.config)
