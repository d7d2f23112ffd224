use Rattle.std.proofs.Common.{◌∙◌, ap, sym}
use Rattle.ux_outputs.specs.Variables.{is_set}
use Rattle.ux_outputs.proofs.NamesLemmas.{asked-set}
use Rattle.ux_folds.proofs.names.asked_by.Goals as goal

pub returns-in-Some : goal.returns-in-Some
returns-in-Some c = ap is_set c.in-Some.ensures.1 ∙ sym (asked-set c.args.text.now c.in-Some.ensures.0)
