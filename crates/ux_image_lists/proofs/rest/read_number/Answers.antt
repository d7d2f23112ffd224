use Rattle.ux_image_lists.proofs.FieldLemmas.{number_read}
use Rattle.ux_image_lists.proofs.rest.read_number.Goals as goal

pub returns-in-Some-clause-ok : goal.returns-in-Some-clause-ok
returns-in-Some-clause-ok c =
    number_read c.args.rest.now.bytes.now c.in-Some.four.now c.in-Some.behind.now
    c.number_of.result c.number_of.ensures.fits c.number_of.ensures.bytes
    c.in-Some.ensures.cases.0 c.in-Some.ensures.cases.1
