use Rattle.ux_image.proofs.OneEntryLaws.{one_entry}
use Rattle.ux_image.proofs.laws.code_decides_entry.Goals as goal

pub returns : goal.returns
returns c =
    one_entry c.args.form.now c.args.code.now c.args.first.now c.args.second.now c.requires.first
    c.requires.second
