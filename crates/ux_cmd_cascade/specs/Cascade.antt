-- The command `cascade`: what it reads, and what answers it. This file carries the crate's public
-- meaning.
use Rattle.std.specs.Prelude.{ℕ, Bool, List}
use Rattle.ux_command_line.specs.declared.request.CascadeStep.{CascadeStep}
use Rattle.ux_plan.specs.Commands.{Command}
use Rattle.ux_reasons.specs.declared.reason.Reason.{Reason}
use Rattle.ux_cmd_cascade.specs.Answering.{IsCascadeText}
use Rattle.ux_cmd_cascade.specs.Laws.{cascade_laws}
use Rattle.ux_cmd_cascade.specs.Reading.{Cascaded}
use Rattle.ux_cmd_cascade.specs.Testing.{cascade_plan}

-- a text, rewritten by these steps, one after the other
abbrev pub cascade : (text alphabet : List ℕ) → List CascadeStep → (dics : List (List ℕ)) →
    (trace : Bool) → Command Reason
cascade text alphabet steps dics trace = record {
  Read = Cascaded;
  plan = cascade_plan text alphabet steps dics;
  laws = cascade_laws text alphabet steps dics;
  Answers = IsCascadeText steps trace;
}
