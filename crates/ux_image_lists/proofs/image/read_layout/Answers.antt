use Rattle.std.proofs.Common.{refl}
use Rattle.ux_image_lists.proofs.ImageLaws.{layout_excluded}
use Rattle.ux_image_lists.proofs.image.read_layout.Goals as goal

pub returns-clause-exact : goal.returns-clause-exact
returns-clause-exact c = λ error refuses.
    layout_excluded c.args.bytes.now
    (record { states = c.in_ok-front.front.states; lists = c.in_ok-lists.lists }) error
    (record {
      front = c.in_ok-front.front;
      is_front = c.in_ok-front.ensures.ok;
      states = refl;
      lists = c.in_ok-lists.ensures.ok;
    }) refuses
