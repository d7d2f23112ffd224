-- A cascade's files, as they are kept. Inner: the crate's own functions alone speak of it.
use Rattle.std.specs.Prelude.{◌≡◌, ℕ, List, [], ◌∷◌, Option}
use Rattle.ux_alphabet.specs.Letters.{Letters}
use Rattle.ux_apply.specs.declared.priority.Priority.{Priority}
use Rattle.ux_base.specs.Outside.{Files}
use Rattle.ux_cascade.specs.Cascades.{AreOfSomeText}
use Rattle.ux_command_line.specs.declared.request.CascadeStep.{CascadeStep}
use Rattle.ux_dela.specs.declared.entry.Entry.{Entry}
use Rattle.ux_grammars.specs.Reading.{Compiles}
use Rattle.ux_grammars.specs.Sources.{Source}
use Rattle.ux_plan.specs.Plans.{Comes, all}
use Rattle.ux_tokens.specs.Tokens.{Token}
use Rattle.ux_cmd_cascade.specs.declared.files.StepNet.{StepNet}
use Rattle.ux_cmd_cascade.specs.Reading.{files_plan, step_plan}

-- the net is that of the grammar, and its outputs become what the step says
pub record IsNetOf (letters : Letters) (step : CascadeStep) (source : Source) (net : StepNet) : Type 0
  where
    pub compiles : Compiles letters source net.net
    pub mode : net.mode ≡ step.mode

-- the net is that of the step's grammar, which was read
pub record HasStepNet (letters : Letters) (told : Option Files) (step : CascadeStep) (net : StepNet) :
    Type 0 where
  pub source : Source
  pub comes : Comes (step_plan letters step) told source
  pub is : IsNetOf letters step source net

-- the nets are those of the steps and their grammars, in order
abbrev pub AreNetsOf : Letters → List CascadeStep → List Source → List StepNet → Type 0
AreNetsOf letters [] [] [] = Unit {0}
AreNetsOf letters (step ∷ steps) (source ∷ sources) (net ∷ nets) =
    IsNetOf letters step source net × AreNetsOf letters steps sources nets
AreNetsOf letters steps sources nets = ⊥

-- the grammars of the steps were read, and the nets are theirs
pub record HaveNets (letters : Letters) (told : Option Files) (steps : List CascadeStep)
    (nets : List StepNet) : Type 0 where
  pub sources : List Source
  pub comes : Comes (all (step_plan letters) steps) told sources
  pub are : AreNetsOf letters steps sources nets

-- the files of a cascade were read, and the nets are those of its steps
pub record AreFiles (text alphabet : List ℕ) (steps : List CascadeStep) (dics : List (List ℕ))
    (told : Option Files) (letters : Letters) (nets : List StepNet) (tokens : List Token)
    (entries : List (Priority × List Entry)) : Type 0 where
  pub sources : List Source
  pub comes : Comes (files_plan text alphabet steps dics) told
      (record { letters = letters; sources = sources; tokens = tokens; dics = entries })
  pub are : AreNetsOf letters steps sources nets
  pub cut : AreOfSomeText letters tokens
