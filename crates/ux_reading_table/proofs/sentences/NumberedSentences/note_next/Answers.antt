use Rattle.std.proofs.Common.{refl, ap}
use Rattle.ux_sentence.specs.Files.{Place}
use Rattle.ux_reading_table.proofs.PlacesLemmas.{notes_many, notes_none}
use Rattle.ux_reading_table.proofs.sentences.NumberedSentences.note_next.Goals as goal

pub returns-in-Empty-clause-ok : goal.returns-in-Empty-clause-ok
returns-in-Empty-clause-ok c =
    let begins = rw (c.in-Some.is, c.in-Empty.is) at c.in_ok-opening.ensures.ok in
    notes_none c.args.self.now c.opening.new.self c.args.noted.now.printed.keys _ begins
    (ap (λ (p : Place). p.told) c.self.view_is) refl c.new.ensures.items

pub returns-in_ok-note_links-in-Automaton-clause-ok : goal.returns-in_ok-note_links-in-Automaton-clause-ok
returns-in_ok-note_links-in-Automaton-clause-ok c =
    let begins = rw (c.in-Some.is, c.in-Automaton.is) at c.in_ok-opening.ensures.ok in
    let (links, reads, adds, told) = c.in_ok-note_links-in-Automaton.ensures.ok in
    notes_many c.in-Automaton.links c.args.self.now c.opening.new.self c.note_links.new.self links
    c.args.noted.now.printed.keys c.note_links.new.noted.printed.keys _ begins reads adds told
    (ap (λ (p : Place). p.told) c.self.view_is)
