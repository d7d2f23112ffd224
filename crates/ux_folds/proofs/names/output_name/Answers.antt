use Rattle.std.proofs.Common.{arith}
use Rattle.std.proofs.lemmas.Str.Pattern.{strip_prefix_char}
use Rattle.ux_outputs.proofs.NamesLemmas.{prefix-told}
use Rattle.ux_folds.proofs.names.output_name.Goals as goal

pub returns : goal.returns
returns c = prefix-told c.args.text.now c.strip_prefix.result
    (strip_prefix_char 124 c.args.text.now c.strip_prefix.result c.strip_prefix.ensures.cases (omega arith))
