use Rattle.std.proofs.Common.{arith}
use Rattle.ux_image_content.proofs.ContentLaws.{image_excluded}
use Rattle.ux_image_content.proofs.ToldLemmas.{image_is}
use Rattle.ux_image_content.proofs.image.read_image.Goals as goal

pub returns-clause-ok : goal.returns-clause-ok
returns-clause-ok c =
    image_is c.args.bytes.now c.in_ok-image.image c.in_ok-image.ensures.ok c.requires
    c.in_ok-count_letters.field-0 c.in_ok-count_letters.ensures
    (omega (arith, c.if-branch-gt-MOST_LETTERS.false))

pub returns-clause-exact : goal.returns-clause-exact
returns-clause-exact c = λ error refuses.
    image_excluded c.args.bytes.now c.in_ok-image.image error
    (image_is c.args.bytes.now c.in_ok-image.image c.in_ok-image.ensures.ok c.requires
    c.in_ok-count_letters.field-0 c.in_ok-count_letters.ensures
    (omega (arith, c.if-branch-gt-MOST_LETTERS.false))) refuses
