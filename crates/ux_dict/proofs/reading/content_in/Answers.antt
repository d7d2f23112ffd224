use Rattle.ux_dict.proofs.reading.content_in.Goals as goal

pub returns-clause-ok : goal.returns-clause-ok
returns-clause-ok c = record {
  entries = c.in_ok-entries.entries.items;
  are = c.in_ok-entries.ensures.ok;
  is = c.in_ok-in_order.ensures;
}
