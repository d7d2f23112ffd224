use Rattle.std.proofs.Common.{take}
use Rattle.ux_sentence.specs.Passages.{AreSteps}
use Rattle.ux_sentence.proofs.passage.steps_of.Given as goal

-- the steps are those of the links so far
abbrev pub invariant-loop-link : goal.invariant-loop-link
invariant-loop-link l = AreSteps (take l.link-index l.links) l.steps.items
