use Rattle.ux_image_look_ups.proofs.PlaceLemmas.{same-others}
use Rattle.ux_image_look_ups.proofs.places.Place.settle.Goals as goal

pub returns-then-len-gt1 : goal.returns-then-len-gt1
returns-then-len-gt1 c =
    same-others c.self.inside.first c.args.self.now c.self.inside.others.items
    c.each_once.new.items.items c.self.view_is c.each_once.ensures
