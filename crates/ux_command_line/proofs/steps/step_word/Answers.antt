use Rattle.std.proofs.Common.{◌∙◌, sym}
use Rattle.ux_command_line.proofs.StepWriting.{WritesStep-step_word_of, unwritten}
use Rattle.ux_command_line.proofs.steps.step_word.Goals as goal

pub returns-in-Some-clause-written : goal.returns-in-Some-clause-written
returns-in-Some-clause-written c = WritesStep-step_word_of c.args.word.now c.in-Some.step
    (sym c.in_ok-step.ensures ∙ c.in-Some.is)

pub returns-in-None-clause-unwritten : goal.returns-in-None-clause-unwritten
returns-in-None-clause-unwritten c =
    λ usage. unwritten c.args.word.now (sym c.in_ok-step.ensures ∙ c.in-None.is)
