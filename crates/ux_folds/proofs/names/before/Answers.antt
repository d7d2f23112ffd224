use Rattle.ux_outputs.proofs.NamesLemmas.{ends-told}
use Rattle.ux_folds.proofs.names.before.Goals as goal

pub returns : goal.returns
returns c = ends-told c.args.end.now c.args.text.now c.strip_suffix.result c.strip_suffix.ensures.cases
