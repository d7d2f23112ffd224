use Rattle.std.proofs.Common.{◌≡◌}
use Rattle.ux_outputs.specs.Rendering.{past_spaces}
use Rattle.ux_folds.proofs.taking.after_spaces.Given as goal

-- no token so far ends the spaces
abbrev pub invariant-loop-position : goal.invariant-loop-position
invariant-loop-position l =
    past_spaces l.text l.from l.to ≡ past_spaces l.text l.position l.to
