use Rattle.ux_image.proofs.ImageLaws.{one_image}
use Rattle.ux_image.proofs.laws.content_decides_image.Goals as goal

pub returns : goal.returns
returns c = one_image c.args.content.now _ _ c.requires.first c.requires.second
