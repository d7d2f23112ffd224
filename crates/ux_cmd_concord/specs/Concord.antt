-- The command `concord`: what it reads, and what answers it. This file carries the crate's public
-- meaning.
use Rattle.std.specs.Prelude.{ℕ, Bool, List}
use Rattle.ux_base.specs.declared.settings.Mode.{Mode}
use Rattle.ux_base.specs.declared.settings.NoVar.{NoVar}
use Rattle.ux_base.specs.declared.settings.Policy.{Policy}
use Rattle.ux_plan.specs.Commands.{Command}
use Rattle.ux_reasons.specs.declared.reason.Reason.{Reason}
use Rattle.ux_grammars.specs.Sources.{grammar_of}
use Rattle.ux_cmd_locate.specs.Reading.{Searched, search_plan}
use Rattle.ux_cmd_locate.specs.Laws.{search_laws}
use Rattle.ux_cmd_concord.specs.Applied.{IsAppliedConcordance}
use Rattle.ux_cmd_concord.specs.declared.layout.Layout.{Layout}

-- the concordance of what the policy keeps of the hits of what was read
abbrev pub IsConcordanceOf : (mode : Mode) (policy : Policy) (novar : NoVar) (layout : Layout)
    (read : Searched) → (answer : List ℕ) → Type 0
IsConcordanceOf mode policy novar layout read answer =
    IsAppliedConcordance read.letters read.tokens read.dics (grammar_of read.letters read.source)
    mode policy novar layout answer

-- a search whose hits are rendered in this mode, and what the policy keeps of them laid out so
abbrev pub concord : (graph text alphabet : List ℕ) (dics : List (List ℕ)) (mode : Mode)
    (policy : Policy) (novar : NoVar) (chars : Bool) (layout : Layout) → Command Reason
concord graph text alphabet dics mode policy novar chars layout = record {
  Read = Searched;
  plan = search_plan graph text alphabet dics chars;
  laws = search_laws graph text alphabet dics chars;
  Answers = IsConcordanceOf mode policy novar layout;
}
