use Rattle.std.proofs.Common.{arith}
use Rattle.std.proofs.lemmas.Str.Pattern.{strip_prefix_char}
use Rattle.ux_fst2.specs.Tags.{PERCENT}
use Rattle.ux_fst2.proofs.tag.behind_percent.Goals as goal

pub returns : goal.returns
returns c =
    strip_prefix_char PERCENT c.args.text.now c.strip_prefix.result c.strip_prefix.ensures.cases
    (omega arith)
