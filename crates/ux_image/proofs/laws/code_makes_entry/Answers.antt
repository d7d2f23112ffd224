use Rattle.std.proofs.Common.{subst}
use Rattle.std.specs.Str.{IsUtf8}
use Rattle.ux_image.proofs.RebuiltLaws.{rebuilds_again}
use Rattle.ux_image.proofs.laws.code_makes_entry.Goals as goal

pub returns : goal.returns
returns c =
    rebuilds_again c.args.entry.now c.requires
    (subst IsUtf8 c.as_str-lemma.ensures c.as_str-lemma.utf8)
