use Rattle.std.proofs.Common.{◌≡◌, suc, drop, length}
use Rattle.ux_boxes.specs.Numbers.{places_before}
use Rattle.ux_state_places.specs.Placing.{AreKeptRows}
use Rattle.ux_state_places.proofs.placed.kept_graphs.Given as goal

-- the places so far are kept, and the marks behind theirs are left
abbrev pub invariant-loop-places : goal.invariant-loop-places
invariant-loop-places l = record {
  rest : l.rest ≡ drop (places_before l.fn.raw.items (suc (length l.yielded))) l.marks;
  kept : AreKeptRows l.fn.raw.items l.marks (length l.yielded) l.kept.items;
}
