use Rattle.std.proofs.Common.{◌≡◌, suc, take, drop}
use Rattle.ux_boxes.specs.Numbers.{places_before}
use Rattle.ux_boxes.specs.Rows.{cut}
use Rattle.ux_boxes.proofs.rows.rows_by_graph.Given as goal

abbrev pub invariant-loop-places : goal.invariant-loop-places
invariant-loop-places g l = record {
  rest : l.rest ≡ drop (places_before l.graphs (suc l.places-index)) l.items;
  rows : l.rows.items ≡ cut (take l.places-index l.graphs) l.items;
}
