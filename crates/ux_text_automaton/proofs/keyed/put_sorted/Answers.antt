use Rattle.ux_text_automaton.proofs.FoundLemmas.{links_put}
use Rattle.ux_text_automaton.proofs.keyed.put_sorted.Goals as goal

pub returns : goal.returns
returns c =
    links_put c.args.found.items c.args.links.now.items c.put_links.new.links.items
    c.in_ok-all.all.items c.sort.new.links.items c.in_ok-all.ensures c.sort.ensures.same
    c.sort.ensures.in_order c.in_ok-put_links.ensures
