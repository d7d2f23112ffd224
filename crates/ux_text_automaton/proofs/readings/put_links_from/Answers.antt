use Rattle.ux_text_automaton.proofs.readings.put_links_from.Goals as goal

pub returns : goal.returns
returns c = record {
  found = c.in_ok-found.found.items;
  are = c.in_ok-found.ensures;
  in_order = c.in_ok-put_in_order.ensures;
}
