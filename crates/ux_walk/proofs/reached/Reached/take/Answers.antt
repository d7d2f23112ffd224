use Rattle.std.proofs.Common.{◌≡◌, ◌∷◌, [], List, refl}
use Rattle.ux_outputs.specs.declared.event.Event.{Event}
use Rattle.ux_outputs.specs.declared.event.Event.TheVariants.{Take}
use Rattle.ux_walk.proofs.Results.{on_ok}
use Rattle.ux_walk.proofs.Adding.{adds_noted}
use Rattle.ux_walk.specs.Configurations.{going}
use Rattle.ux_walk.proofs.reached.Reached.take.Goals as goal

pub returns : goal.returns
returns c = on_ok c.pend.result _ _ (λ adds.
    let taken = Take c.args.config.at c.args.end in
    adds_noted (λ (before : List Event) w. w ≡ going c.args.here c.args.end before)
    c.args.self.now c.note.new.self
    c.pend.new.self c.args.config c.args.here c.args.end (taken ∷ []) c.in_ok-events.events
    (c.in_ok-events.ensures taken refl) adds) c.pend.ensures
