use Rattle.ux_image.proofs.TellLemmas.{image_tells}
use Rattle.ux_image.proofs.laws.image_tells_content.Goals as goal

pub returns : goal.returns
returns c = image_tells c.args.content.now c.args.bytes.now c.requires
