use Rattle.std.proofs.Common.{◌≡◌, ◌++◌, length, take, string_bytes}
use Rattle.ux_sentence.specs.Written.{ended, sentence_line}
use Rattle.ux_reading_table.proofs.PrintedLemmas.{numbered_lines}
use Rattle.ux_reading_table.proofs.printing.print_numbered.Given as goal

-- the links so far are printed behind the sentence's line
abbrev pub invariant-loop-link : goal.invariant-loop-link
invariant-loop-link l =
    string_bytes l.file ≡ string_bytes l.fn.file ++ (ended
    (sentence_line l.sentence.number l.sentence.states (length l.sentence.links.items))
    ++ numbered_lines l.texts (take l.link-index l.sentence.links.items))
