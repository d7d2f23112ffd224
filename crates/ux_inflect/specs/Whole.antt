-- The whole words of a net, with those of called graphs in the places of the calls, and what such a
-- word reads, puts out and does. Public: the crate's public contracts speak of it.
use Rattle.std.specs.Prelude.{◌≡◌, ℕ, List, [], ◌∷◌, ◌++◌, chars, map}
use Rattle.std.specs.List.{flat_map}
use Rattle.ux_grf.specs.declared.item.Piece.TheVariants.{Chars}
use Rattle.ux_net.specs.declared.label.Label.TheVariants.{CaseFolded, CaseExact, Call}
use Rattle.ux_net.specs.declared.net_graph.NetGraph.{NetGraph}
use Rattle.ux_net.specs.Nets.{net_grammar}
use Rattle.ux_net.specs.Words.{Grammar, Letter, plain, piece, Step, ordinary, mark_of, letters, put_by}
use Rattle.ux_inflect.specs.Strokes.{stroke_of}
use Rattle.ux_inflect.specs.declared.stroke.Stroke.{Stroke}
use Rattle.ux_inflect.specs.declared.stroke.Stroke.TheVariants.{Write}

-- a step that neither calls a graph nor bounds a context
pub record IsReading (step : Step) : Type 0 where
  pub ordinary : mark_of step.labels ≡ ordinary
  pub no_call : (h : ℕ) → step.labels ≡ Call h ∷ [] → ⊥

module _ (grammar : Grammar) where
  -- The letters of a run from a place of a graph to an end of it, where a whole word of a called
  -- graph stands in the place of each call: from its start.
  pub data IsWholeFrom : (g place : ℕ) → List Letter → Type 0 where
    ends : {g a : ℕ} → (grammar.graph g).IsEnd a → IsWholeFrom g a []
    along : {g : ℕ} {rest : List Letter} (s : Step) → (grammar.graph g).IsStep s → IsReading s →
        IsWholeFrom g s.to rest → IsWholeFrom g s.from ((put_by s ++ letters s.labels) ++ rest)
    called : {g h : ℕ} {inner rest : List Letter} (s : Step) → (grammar.graph g).IsStep s →
        s.labels ≡ Call h ∷ [] → IsWholeFrom h (grammar.graph h).start inner →
        IsWholeFrom g s.to rest → IsWholeFrom g s.from (put_by s ++ (inner ++ rest))

-- a word of the main graph, whole: no call is left in it
abbrev pub IsWhole : List NetGraph → List Letter → Type 0
IsWhole net whole = IsWholeFrom (net_grammar net) 1 0 whole

-- the text that a letter reads
abbrev pub input_by : Letter → List ℕ
input_by (plain (CaseFolded text)) = text
input_by (plain (CaseExact text)) = text
input_by letter = []

-- the text that it puts out
abbrev pub output_by : Letter → List ℕ
output_by (piece (Chars text)) = text
output_by letter = []

-- what it does: a quoted text is written whole
abbrev pub strokes_by : Letter → List Stroke
strokes_by (plain (CaseFolded text)) = map stroke_of (chars text)
strokes_by (plain (CaseExact text)) = map Write (chars text)
strokes_by letter = []

-- the text that a word reads
abbrev pub input_of : List Letter → List ℕ
input_of whole = flat_map input_by whole

-- the text that it puts out
abbrev pub output_of : List Letter → List ℕ
output_of whole = flat_map output_by whole

-- what it does
abbrev pub strokes_of : List Letter → List Stroke
strokes_of whole = flat_map strokes_by whole
