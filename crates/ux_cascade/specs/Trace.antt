-- The rounds of a cascade, as text. The layout is this program's own. Public: the crate's public
-- contracts speak of it.
use Rattle.std.specs.Prelude.{ℕ, ◌+◌, List, ◌++◌, codes}
use Rattle.std.specs.Fmt.{decimal}
use Rattle.std.specs.List.{flat_map}
use Rattle.ux_cascade.specs.declared.outcome.Round.{Round}

-- a round's line: its step, which of the step's rounds it is, and how many hits were rewritten
abbrev pub trace_line : Round → List ℕ
trace_line round =
    decimal (round.step + 1) ++ codes " " ++ decimal round.round ++ codes " " ++ decimal round.spans
    ++ codes "\n"

-- a line for each round
abbrev pub trace_of : List Round → List ℕ
trace_of rounds = flat_map trace_line rounds
