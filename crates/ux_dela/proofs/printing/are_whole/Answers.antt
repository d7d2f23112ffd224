use Rattle.std.proofs.Common.{◌∙◌, ap, length}
use Rattle.std.specs.Prelude.{◌==◌}
use Rattle.ux_dela.proofs.CutLemmas.{is_none}
use Rattle.ux_dela.proofs.CodesTextLemmas.{whole_part, part_whole}
use Rattle.ux_dela.proofs.printing.are_whole.Goals as goal

pub returns : goal.returns
returns c =
    let front = c.split_part.result.0.now in
    let rest = c.split_part.result.1.now in (
      λ is. whole_part c.args.text.now front rest c.split_part.ensures.split
          (is_none c.is_empty.result rest c.is_empty.ensures is),
      λ part. c.is_empty.ensures
          ∙ ap (λ t. length t == 0)
          (part_whole c.args.text.now front rest c.split_part.ensures.split part),
    )
