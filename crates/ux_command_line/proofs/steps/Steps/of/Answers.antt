use Rattle.std.proofs.Common.{◌∙◌, ap, sym}
use Rattle.ux_command_line.specs.Steps.{step_word_of}
use Rattle.ux_command_line.proofs.StepLemmas.{AreRead-more}
use Rattle.ux_command_line.proofs.steps.Steps.of.Goals as goal

pub loop-word-preserved : goal.loop-word-preserved
loop-word-preserved c = rw (c.in_ok-add.ensures.steps, c.in_ok-add.ensures.dics)
    (AreRead-more c.args.words.now c.loop-word.word-index c.word-item.result c.loop-word-test.true
    c.loop-word.read.steps.items c.loop-word.read.dics.items c.loop-word.invariant
    c.in_ok-step_word.field-0 (ap step_word_of (sym c.word-item.is ∙ sym c.as_str.ensures)
    ∙ c.in_ok-step_word.ensures.ok))
