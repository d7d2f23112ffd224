use Rattle.std.proofs.Common.{length, string_bytes}
use Rattle.ux_sentence.specs.Written.{ended, head_line}
use Rattle.ux_sentence.proofs.PrintLemmas.{printed_first, printed_more, printed_whole}
use Rattle.ux_sentence.proofs.printing.print.Goals as goal

pub loop-sentence-init : goal.loop-sentence-init
loop-sentence-init c =
    printed_first c.args.sentences.now (ended (head_line (length c.args.sentences.now)))
    (string_bytes c.in_ok-file.file) c.in_ok-file.ensures

pub loop-sentence-preserved : goal.loop-sentence-preserved
loop-sentence-preserved c =
    let printed = c.in_ok-print_sentence.ensures in
    printed_more c.args.sentences.now c.loop-sentence.sentence-index c.sentence-item.result
    (ended (head_line (length c.args.sentences.now))) (string_bytes c.loop-sentence.file)
    (string_bytes c.print_sentence.new.file) printed.0 c.loop-sentence-test.true
    c.sentence-item.is c.loop-sentence.invariant printed.1 printed.2

pub returns : goal.returns
returns c =
    printed_whole c.args.sentences.now c.loop-sentence.sentence-index
    (string_bytes c.loop-sentence.file) c.loop-sentence-test.false c.loop-sentence.invariant
