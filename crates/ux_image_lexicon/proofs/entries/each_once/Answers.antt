use Rattle.std.proofs.Common.{arith}
use Rattle.ux_image_lexicon.proofs.OnceLemmas.{once-short}
use Rattle.ux_image_lexicon.proofs.entries.each_once.Goals as goal

pub returns-then-len-lt2 : goal.returns-then-len-lt2
returns-then-len-lt2 c =
    let long = c.args.entries.ok.0 in
    once-short c.args.entries.items (omega (arith, long))
