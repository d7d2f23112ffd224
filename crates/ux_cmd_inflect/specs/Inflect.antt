-- What the command `inflect` reads, and what answers it. This file carries the command's meaning.
use Rattle.std.specs.Prelude.{ℕ, List}
use Rattle.ux_plan.specs.Commands.{Command}
use Rattle.ux_reasons.specs.declared.reason.Reason.{Reason}
use Rattle.ux_cmd_inflect.specs.Inflecting.{AreForms}
use Rattle.ux_cmd_inflect.specs.Laws.{inflect_laws}
use Rattle.ux_cmd_inflect.specs.Reading.{Classed, IsNetOf, inflect_plan}

-- the forms of the lemmas of a file, each by the graph of its class
abbrev pub inflect : (stems : List ℕ) → Command Reason
inflect stems = record {
  Read = Classed;
  plan = inflect_plan stems;
  laws = inflect_laws stems;
  Answers = λ read answer. AreForms (IsNetOf read) read.stems answer;
}
