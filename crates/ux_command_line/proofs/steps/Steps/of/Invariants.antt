use Rattle.std.proofs.Common.{take}
use Rattle.ux_command_line.proofs.StepLemmas.{AreRead}
use Rattle.ux_command_line.proofs.steps.Steps.of.Given as goal

-- the words so far are read
abbrev pub invariant-loop-word : goal.invariant-loop-word
invariant-loop-word l =
    AreRead (take l.word-index l.words) l.read.steps.items l.read.dics.items
