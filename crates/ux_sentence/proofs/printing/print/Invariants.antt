use Rattle.std.proofs.Common.{length, string_bytes}
use Rattle.ux_sentence.specs.Written.{ended, head_line}
use Rattle.ux_sentence.proofs.PrintLemmas.{IsPrintedTo}
use Rattle.ux_sentence.proofs.printing.print.Given as goal

-- the sentences so far are printed behind the head line
abbrev pub invariant-loop-sentence : goal.invariant-loop-sentence
invariant-loop-sentence l =
    IsPrintedTo l.sentences l.sentence-index (ended (head_line (length l.sentences)))
    (string_bytes l.file)
