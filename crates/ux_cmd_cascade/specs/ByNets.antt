-- What answers a cascade by the nets of its steps. Inner: the crate's own functions alone speak of it.
use Rattle.std.specs.Prelude.{◌≡◌, ⊤, ℕ, Bool, List}
use Rattle.ux_alphabet.specs.Letters.{Letters}
use Rattle.ux_apply.specs.declared.priority.Priority.{Priority}
use Rattle.ux_cascade.specs.declared.outcome.Outcome.{Outcome}
use Rattle.ux_cascade.specs.Cascades.{IsCascade}
use Rattle.ux_cascade.specs.Refusing.{LeavesTooMany}
use Rattle.ux_command_line.specs.declared.request.CascadeStep.{CascadeStep}
use Rattle.ux_dela.specs.declared.entry.Entry.{Entry}
use Rattle.ux_plan.specs.declared.stop.Stop.{Stop}
use Rattle.ux_plan.specs.declared.stop.Stop.TheVariants.{NoMemory, TooLarge}
use Rattle.ux_reasons.specs.declared.reason.Reason.{Reason}
use Rattle.ux_tokens.specs.Tokens.{Token}
use Rattle.ux_cmd_cascade.specs.declared.files.StepNet.{StepNet}
use Rattle.ux_cmd_cascade.specs.Answering.{answer_text, times_in}
use Rattle.ux_cmd_cascade.specs.Finding.{FindsByNet}

module _ (letters : Letters) (dics : List (Priority × List Entry)) (nets : List StepNet)
    (steps : List CascadeStep) (tokens : List Token) where
  -- a round leaves a text with too many tokens
  abbrev pub LeavesTooManyByNets : Type 0
  LeavesTooManyByNets = LeavesTooMany letters (FindsByNet letters dics nets) (times_in steps) tokens

  -- the answer is what the steps come to, as text, and no round leaves too many tokens
  pub record IsTextByNets (trace : Bool) (answer : List ℕ) : Type 0 where
    pub outcome : Outcome
    pub comes_to : IsCascade letters (FindsByNet letters dics nets) (times_in steps) tokens outcome
    pub few : LeavesTooManyByNets → ⊥
    pub is : answer ≡ answer_text trace outcome

  -- a round leaves too many tokens, and the text of this name is too large; or memory ran out
  abbrev pub StopsByNets : (name : List ℕ) → Stop Reason → Type 0
  StopsByNets name NoMemory = ⊤
  StopsByNets name by = (by ≡ TooLarge name) × LeavesTooManyByNets
