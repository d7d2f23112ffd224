use Rattle.std.proofs.Common.{refl, ◌∙◌, ap}
use Rattle.ux_sentence.specs.Files.{Place}
use Rattle.ux_sentence.proofs.DueLemmas.{empty_from, links_from}
use Rattle.ux_sentence.proofs.reader.Sentences.due.Goals as goal

pub returns-in-Empty-clause-ok : goal.returns-in-Empty-clause-ok
returns-in-Empty-clause-ok c =
    let is = rw c.in-Empty.is at c.in-Some.ensures in
    let mid = c.self-2.view_is in
    empty_from c.args.self.now c.next_line.new.self _ c.in_ok-line.line.now _ c.self.inside.told
    (ap (λ (p : Place). p.told) c.self.view_is) c.requires.due c.in_ok-line.ensures.ok refl is
    refl (c.new-in-Empty.ensures ∙ c.new.ensures.items) (ap (λ (p : Place). p.lines) mid)
    (ap (λ (p : Place). p.passed) mid) refl (ap (λ (p : Place). p.count) mid)

pub returns-in_ok-links-in-Automaton-clause-ok : goal.returns-in_ok-links-in-Automaton-clause-ok
returns-in_ok-links-in-Automaton-clause-ok c =
    let is = rw c.in-Automaton.is at c.in-Some.ensures in
    let mid = c.self-2.view_is in
    let links = c.in_ok-links-in-Automaton.ensures in
    links_from c.args.self.now c.next_line.new.self c.links.new.self c.in_ok-line.line.now _
    c.in-Automaton.links c.self.inside.told c.self-2.inside.passed c.self-2.inside.count
    c.self-2.inside.left c.in_ok-links-in-Automaton.field-0.items
    (ap (λ (p : Place). p.told) c.self.view_is) (ap (λ (p : Place). p.lines) mid)
    (ap (λ (p : Place). p.passed) mid) (ap (λ (p : Place). p.count) mid) c.requires.due
    c.in_ok-line.ensures.ok refl is c.new-in-Automaton.ensures links.many links.say links.past
    links.told links.count
