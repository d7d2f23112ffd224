use Rattle.std.proofs.Common.{rules, ◌∷◌, [], subst}
use Rattle.ux_state_places.specs.RefusingStates.{RefusesStates}
use Rattle.ux_flatten.proofs.NotRefused.{sound_not_refused}
use Rattle.ux_flatten.proofs.admitting.admit.Goals as goal

pub unreachable-requires : goal.unreachable-requires
unreachable-requires c =
    sound_not_refused (c.args.flat ∷ []) c.in-Err.field-0 c.requires.sound (search rules)
    (subst (λ graphs. RefusesStates graphs c.in-Err.field-0) c.in_ok-vec.ensures.items
    c.in-Err.ensures.err)
