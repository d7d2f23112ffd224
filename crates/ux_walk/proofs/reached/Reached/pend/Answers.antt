use Rattle.std.proofs.Common.{refl}
use Rattle.ux_walk.specs.declared.reached.Reached.{Reached}
use Rattle.ux_walk.proofs.Adding.{adds_config}
use Rattle.ux_walk.proofs.Keeping.{keeps_same}
use Rattle.ux_walk.proofs.reached.Reached.pend.Goals as goal

pub returns : goal.returns
returns c = λ v before sound spells.
    let new : Reached = record {
      events = c.args.self.now.events;
      texts = c.args.self.now.texts;
      visits = c.args.self.now.visits;
      configs = c.add.new.set;
      returns = c.args.self.now.returns;
      found = c.args.self.now.found;
    } in
    adds_config c.args.self.now new c.args.config c.in_ok-add.field-0
    (keeps_same c.args.self.now new refl refl refl) sound refl refl refl c.in_ok-add.ensures v
    before spells
