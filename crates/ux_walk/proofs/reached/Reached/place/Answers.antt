use Rattle.std.proofs.Common.{refl}
use Rattle.ux_walk.proofs.Results.{if_ok}
use Rattle.ux_walk.proofs.Adding.{adds_text}
use Rattle.ux_walk.proofs.reached.Reached.place.Goals as goal

pub returns : goal.returns
returns c = if_ok c.place.result _ _ (λ place placed.
    adds_text c.args.self.now (record {
      events = c.args.self.now.events;
      texts = c.place.new.self;
      visits = c.args.self.now.visits;
      configs = c.args.self.now.configs;
      returns = c.args.self.now.returns;
      found = c.args.self.now.found;
    }) c.args.text.now place placed refl refl
    (record { configs = refl; returns = refl; found = refl }))
    c.place.ensures
