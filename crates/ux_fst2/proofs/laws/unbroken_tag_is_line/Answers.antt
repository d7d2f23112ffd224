use Rattle.ux_fst2.proofs.UnbrokenLaws.{unbroken_line}
use Rattle.ux_fst2.proofs.laws.unbroken_tag_is_line.Goals as goal

pub returns : goal.returns
returns c = unbroken_line c.args.label.now c.args.output.now c.requires
