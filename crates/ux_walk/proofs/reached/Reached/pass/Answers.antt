use Rattle.std.proofs.Common.{◌≡◌, List}
use Rattle.ux_outputs.specs.declared.event.Event.{Event}
use Rattle.ux_walk.specs.Courses.{passing}
use Rattle.ux_walk.proofs.Results.{on_ok}
use Rattle.ux_walk.proofs.Adding.{adds_noted}
use Rattle.ux_walk.specs.Configurations.{going}
use Rattle.ux_walk.proofs.reached.Reached.pass.Goals as goal

pub returns : goal.returns
returns c = on_ok c.pend.result _ _ (λ adds.
    adds_noted (λ (before : List Event) w. w ≡ going c.args.here c.args.config.at before)
    c.args.self.now c.note_passing.new.self
    c.pend.new.self c.args.config c.args.here c.args.config.at (passing c.args.label.now)
    c.in_ok-events.events c.in_ok-events.ensures adds) c.pend.ensures
