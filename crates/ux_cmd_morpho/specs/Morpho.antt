-- The command `morpho`: what it reads, and what answers it. This file carries the crate's public
-- meaning.
use Rattle.std.specs.Prelude.{ℕ, List}
use Rattle.ux_grammars.specs.Sources.{grammar_of, of_boxes}
use Rattle.ux_net.specs.Words.{Grammar}
use Rattle.ux_morpho.specs.Analyses.{GivesBadLine, IsEntryLine}
use Rattle.ux_plan.specs.Commands.{Command}
use Rattle.ux_plan.specs.Plans.{Plan, gives, refusing, tests, then}
use Rattle.ux_reasons.specs.declared.reason.Reason.{Reason}
use Rattle.ux_cmd_morpho.specs.Answering.{IsFileOfWords}
use Rattle.ux_cmd_morpho.specs.Laws.{morpho_laws}
use Rattle.ux_cmd_morpho.specs.Reading.{Analysed}
use Rattle.ux_cmd_morpho.specs.Testing.{IsLineOfRead, morpho_plan}

-- what a grammar finds inside the words of a text
abbrev pub morpho : (graph text alphabet : List ℕ) → (dics : List (List ℕ)) → Command Reason
morpho graph text alphabet dics = record {
  Read = Analysed;
  plan = morpho_plan graph text alphabet dics;
  laws = morpho_laws graph text alphabet dics;
  Answers = λ read answer. IsFileOfWords read.tokens (IsLineOfRead read) answer;
}
