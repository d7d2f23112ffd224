use Rattle.std.proofs.Common.{refl}
use Rattle.ux_walk.proofs.JoinsLemmas.{join_one}
use Rattle.ux_walk.proofs.joining.join.Goals as goal

pub returns : goal.returns
returns c = λ listed.
    join_one c.args.waiting c.args.found _ c.args.events.now.links.keys
    c.append.new.self.links.keys c.args.configs.now.keys c.add.new.set.keys c.in_ok-number.number
    c.in_ok-add.field-0 refl (c.in_ok-number.ensures listed.below) c.in_ok-add.ensures listed
