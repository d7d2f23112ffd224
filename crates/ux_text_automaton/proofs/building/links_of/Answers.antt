use Rattle.std.proofs.Common.{arith, subst, sym}
use Rattle.ux_text_automaton.proofs.SentenceLemmas.{AreLinksBefore, links_are, links_more, links_none}
use Rattle.ux_text_automaton.proofs.building.links_of.Goals as goal

pub loop-place-init : goal.loop-place-init
loop-place-init c =
    subst (AreLinksBefore c.args.text.now c.args.tables.now c.args.run c.args.run.first)
    (sym c.new-links.ensures.items)
    (links_none c.args.text.now c.args.tables.now c.args.run)

pub loop-place-preserved : goal.loop-place-preserved
loop-place-preserved c =
    links_more c.requires.belongs.0 c.args.text.now c.args.tables.now c.requires.belongs.1 c.args.run
    c.requires.run c.loop-place.place (omega arith) (omega arith) c.loop-place.links.items
    c.put_links_from.new.links.items c.in_ok-put_links_from.ensures c.loop-place.invariant

pub returns : goal.returns
returns c =
    let low = c.requires.run.some.1 in
    let high = c.requires.run.some.2 in
    links_are c.requires.belongs.0 c.args.text.now c.args.tables.now c.requires.belongs.1 c.args.run
    c.requires.run c.loop-place.place c.loop-place.links.items (omega (arith, low, high))
    c.loop-place.invariant
