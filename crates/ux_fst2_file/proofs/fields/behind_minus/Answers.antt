use Rattle.std.proofs.Common.{arith}
use Rattle.std.proofs.lemmas.Str.Pattern.{strip_prefix_char}
use Rattle.ux_fst2_file.specs.Lines.{MINUS}
use Rattle.ux_fst2_file.proofs.fields.behind_minus.Goals as goal

pub returns : goal.returns
returns c =
    strip_prefix_char MINUS c.args.text.now c.strip_prefix.result c.strip_prefix.ensures.cases
    (omega arith)
