use Rattle.ux_image_reader.proofs.PlacesLemmas.{first_equal_is}
use Rattle.ux_image_reader.proofs.places.first_equal.Goals as goal

pub returns : goal.returns
returns c = first_equal_is c.args.states.now c.first_repeated.result c.first_repeated.ensures
