use Rattle.ux_fst2.proofs.SaidLaws.{said_back}
use Rattle.ux_fst2.proofs.laws.printed_tag_says.Goals as goal

pub returns : goal.returns
returns c = said_back c.args.label.now c.args.output.now c.requires
