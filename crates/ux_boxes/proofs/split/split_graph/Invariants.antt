use Rattle.std.proofs.Common.{take}
use Rattle.ux_tokens.specs.Numbers.{texts_in}
use Rattle.ux_boxes.proofs.PlacesLemmas.{ArePlacesSoFar}
use Rattle.ux_boxes.proofs.split.split_graph.Given as goal

-- the places of the boxes so far
abbrev pub invariant-loop-number : goal.invariant-loop-number
invariant-loop-number l =
    ArePlacesSoFar l.alphabet (texts_in l.names) (take l.number l.boxes) l.places.items
