-- What answers a cascade's files, and what stops it after they were read. Public, through `Cascade`.
use Rattle.std.specs.Prelude.{◌≡◌, ℕ, Bool, List, [], ◌++◌, codes, if◌then◌else◌, map}
use Rattle.ux_cascade.specs.declared.outcome.Outcome.{Outcome}
use Rattle.ux_cascade.specs.Cascades.{IsCascade}
use Rattle.ux_cascade.specs.Refusing.{LeavesTooMany}
use Rattle.ux_cascade.specs.Trace.{trace_of}
use Rattle.ux_command_line.specs.declared.request.CascadeStep.{CascadeStep}
use Rattle.ux_plan.specs.declared.stop.Stop.{Stop}
use Rattle.ux_plan.specs.declared.stop.Stop.TheVariants.{TooLarge}
use Rattle.ux_reasons.specs.declared.reason.Reason.{Reason}
use Rattle.ux_cmd_cascade.specs.Finding.{FindsIn}
use Rattle.ux_cmd_cascade.specs.Reading.{Cascaded}

-- how often each step is applied
abbrev pub times_in : List CascadeStep → List ℕ
times_in steps = map (λ step. step.times) steps

-- the lines of the trace where it is asked for, the text, and a line feed
abbrev pub answer_text : (trace : Bool) → Outcome → List ℕ
answer_text trace outcome =
    (if trace then trace_of outcome.rounds else []) ++ outcome.text ++ codes "\n"

-- what the steps come to, on what was read
abbrev pub IsCascadeIn : List CascadeStep → Cascaded → Outcome → Type 0
IsCascadeIn steps read outcome =
    IsCascade read.letters (FindsIn read.letters read.dics steps read.sources) (times_in steps)
    read.tokens outcome

-- one of their rounds leaves a text with too many tokens
abbrev pub LeavesTooManyIn : List CascadeStep → Cascaded → Type 0
LeavesTooManyIn steps read =
    LeavesTooMany read.letters (FindsIn read.letters read.dics steps read.sources) (times_in steps)
    read.tokens

-- the text of this name is then too large
abbrev pub StopsRound : (text : List ℕ) → List CascadeStep → Cascaded → Stop Reason → Type 0
StopsRound text steps read by = (by ≡ TooLarge text) × LeavesTooManyIn steps read

-- the answer is what the steps come to, as text
pub record IsCascadeText (steps : List CascadeStep) (trace : Bool) (read : Cascaded)
    (answer : List ℕ) : Type 0 where
  pub outcome : Outcome
  pub comes_to : IsCascadeIn steps read outcome
  pub is : answer ≡ answer_text trace outcome
