use Rattle.std.proofs.Common.{take}
use Rattle.ux_rules.specs.Words.{targets_of}
use Rattle.ux_rules.proofs.BoxLemmas.{IsAtTarget}
use Rattle.ux_rules.proofs.draft.push_targets.Given as goal

abbrev pub invariant-loop-target : goal.invariant-loop-target
invariant-loop-target l =
    IsAtTarget l.graph l.node l.fn.draft l.draft (take l.target-index (targets_of l.graph l.node))
