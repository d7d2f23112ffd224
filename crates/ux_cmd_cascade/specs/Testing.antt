-- The plan of a cascade: its files, and that no round leaves too many tokens. Public, through
-- `Cascade`.
use Rattle.std.specs.Prelude.{ℕ, List}
use Rattle.ux_command_line.specs.declared.request.CascadeStep.{CascadeStep}
use Rattle.ux_plan.specs.Plans.{Plan, gives, tests, then}
use Rattle.ux_reasons.specs.declared.reason.Reason.{Reason}
use Rattle.ux_cmd_cascade.specs.Answering.{LeavesTooManyIn, StopsRound}
use Rattle.ux_cmd_cascade.specs.Reading.{Cascaded, files_plan}

-- no round of what was read leaves too many tokens, or else the text of this name is too large
abbrev pub test_plan : (text : List ℕ) → List CascadeStep → Cascaded → Plan Reason Cascaded
test_plan text steps read =
    tests (LeavesTooManyIn steps read → ⊥) (StopsRound text steps read) (gives read)

-- the files, and then the test
abbrev pub cascade_plan : (text alphabet : List ℕ) → List CascadeStep → (dics : List (List ℕ)) →
    Plan Reason Cascaded
cascade_plan text alphabet steps dics =
    then (files_plan text alphabet steps dics) (test_plan text steps)
