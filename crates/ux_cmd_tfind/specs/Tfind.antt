-- What the command `tfind` reads, and what answers it. This file carries the command's meaning.
use Rattle.std.specs.Prelude.{ℕ, List}
use Rattle.ux_grammars.specs.Sources.{grammar_of}
use Rattle.ux_plan.specs.Commands.{Command}
use Rattle.ux_reasons.specs.declared.reason.Reason.{Reason}
use Rattle.ux_cmd_tfind.specs.Laws.{tfind_laws}
use Rattle.ux_cmd_tfind.specs.Lines.{HasSpans}
use Rattle.ux_cmd_tfind.specs.Reading.{Searched, tfind_plan}

-- the answer has a line for each span of a sentence that the grammar derives, in order, each once
abbrev pub AreFound : Searched → (answer : List ℕ) → Type 0
AreFound read answer =
    HasSpans read.letters (grammar_of read.letters read.source) read.sentences answer

-- where a grammar is found in the automata of sentences
abbrev pub tfind : (graph tfst alphabet : List ℕ) → Command Reason
tfind graph tfst alphabet = record {
  Read = Searched;
  plan = tfind_plan graph tfst alphabet;
  laws = tfind_laws graph tfst alphabet;
  Answers = AreFound;
}
