use Rattle.std.proofs.Common.{refl, ap}
use Rattle.ux_sentence.specs.Files.{Place}
use Rattle.ux_reading_table.proofs.NextLemmas.{tells_next_empty, tells_next_many}
use Rattle.ux_reading_table.proofs.sentences.NumberedSentences.numbered.Goals as goal

pub returns-in-Empty-clause-ok : goal.returns-in-Empty-clause-ok
returns-in-Empty-clause-ok c =
    let begins = rw (c.in-Some.is, c.in-Empty.is) at c.in_ok-opening.ensures.ok in
    tells_next_empty c.args.table.now c.args.self.now c.opening.new.self _ begins
    (ap (λ (p : Place). p.told) c.self.view_is) refl c.new.ensures.items

pub returns-in_ok-numbered_links-in-Automaton-clause-ok : goal.returns-in_ok-numbered_links-in-Automaton-clause-ok
returns-in_ok-numbered_links-in-Automaton-clause-ok c =
    let begins = rw (c.in-Some.is, c.in-Automaton.is) at c.in_ok-opening.ensures.ok in
    let (links, reads, told) = c.in_ok-numbered_links-in-Automaton.ensures.ok in
    tells_next_many c.args.table.now c.in-Automaton.links c.args.self.now c.opening.new.self
    c.numbered_links.new.self _ links begins reads told
    (ap (λ (p : Place). p.told) c.self.view_is)
