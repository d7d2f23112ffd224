use Rattle.std.proofs.Common.{List}
use Rattle.std.specs.List.{AllZip}
use Rattle.ux_sentence.specs.declared.sentence.Link.{Link}
use Rattle.ux_reading_table.specs.Noting.{IsToldIfKnown, ReadsLinks}
use Rattle.ux_reading_table.proofs.sentences.NumberedSentences.numbered_links.Given as goal

-- the lines so far are read, and their links told
abbrev pub invariant-loop-done : goal.invariant-loop-done
invariant-loop-done l = record {
  links : List Link;
  reads : ReadsLinks l.states l.done l.fn.self links l.self;
  told : AllZip (IsToldIfKnown l.table) l.numbered.items links;
}
