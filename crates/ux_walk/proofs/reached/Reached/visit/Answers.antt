use Rattle.std.proofs.Common.{refl}
use Rattle.ux_walk.proofs.Adding.{adds_visit}
use Rattle.ux_walk.proofs.reached.Reached.visit.Goals as goal

pub returns : goal.returns
returns c = adds_visit c.args.self.now (record {
  events = c.args.self.now.events;
  texts = c.args.self.now.texts;
  visits = c.number.new.set;
  configs = c.args.self.now.configs;
  returns = c.args.self.now.returns;
  found = c.args.self.now.found;
}) c.args.visit c.in_ok-number.number c.in_ok-number.ensures.grows
    c.in_ok-number.ensures.numbered refl refl
    (record { configs = refl; returns = refl; found = refl })
