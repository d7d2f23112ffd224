use Rattle.std.proofs.Common.{List, map}
use Rattle.std.specs.List.{AllZip}
use Rattle.ux_sentence.specs.declared.sentence.Link.{Link}
use Rattle.ux_reading_table.specs.Noted.{AreNoted}
use Rattle.ux_reading_table.specs.Noting.{AddsTexts, KeepsPlaces, ReadsLinks}
use Rattle.ux_reading_table.specs.Numbered.{IsTold, text_of}
use Rattle.ux_reading_table.proofs.sentences.NumberedSentences.note_links.Given as goal

-- the lines so far are read and told, and their texts noted
abbrev pub invariant-loop-done : goal.invariant-loop-done
invariant-loop-done l = record {
  links : List Link;
  noted : AreNoted l.noted;
  kept : KeepsPlaces l.fn.noted.printed.keys l.noted.printed.keys;
  reads : ReadsLinks l.states l.done l.fn.self links l.self;
  adds : AddsTexts l.fn.noted.printed.keys (map text_of links) l.noted.printed.keys;
  told : AllZip (IsTold l.noted.printed.keys) l.numbered.items links;
}
