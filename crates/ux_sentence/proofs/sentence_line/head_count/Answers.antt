use Rattle.std.proofs.Common.{arith, Some}
use Rattle.std.specs.Prelude.{codes}
use Rattle.ux_sentence.proofs.OpeningLemmas.{strip_prefix_text, head_number}
use Rattle.ux_sentence.proofs.sentence_line.head_count.Goals as goal

pub returns-then-count-from : goal.returns-then-count-from
returns-then-count-from c = λ n small is.
    let prefix = strip_prefix_text (codes "#TFST ") c.args.line.now
    (Some c.in_ok-strip_prefix.field-0) c.in_ok-strip_prefix.ensures.cases in
    let same = head_number c.args.line.now c.in_ok-strip_prefix.field-0.now n c.in_ok-count.count
    prefix c.in_ok-count.ensures.value small c.in_ok-count.ensures.fits is in
    omega (arith, same, small, c.if-count-from.true, c.from.ensures)
