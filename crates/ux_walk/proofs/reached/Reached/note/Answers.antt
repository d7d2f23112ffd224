use Rattle.std.proofs.Common.{refl}
use Rattle.ux_walk.proofs.Results.{if_ok}
use Rattle.ux_walk.proofs.Adding.{adds_event}
use Rattle.ux_walk.proofs.reached.Reached.note.Goals as goal

pub returns : goal.returns
returns c = if_ok c.cons.result _ _ (λ number consed event stands.
    adds_event c.args.self.now (record {
      events = c.cons.new.self;
      texts = c.args.self.now.texts;
      visits = c.args.self.now.visits;
      configs = c.args.self.now.configs;
      returns = c.args.self.now.returns;
      found = c.args.self.now.found;
    }) c.args.noted event c.args.events number consed stands refl refl
    (record { configs = refl; returns = refl; found = refl })) c.cons.ensures
