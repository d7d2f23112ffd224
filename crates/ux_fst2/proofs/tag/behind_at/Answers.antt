use Rattle.std.proofs.Common.{arith}
use Rattle.std.proofs.lemmas.Str.Pattern.{strip_prefix_char}
use Rattle.ux_fst2.specs.Tags.{AT}
use Rattle.ux_fst2.proofs.tag.behind_at.Goals as goal

pub returns : goal.returns
returns c =
    strip_prefix_char AT c.args.text.now c.strip_prefix.result c.strip_prefix.ensures.cases
    (omega arith)
