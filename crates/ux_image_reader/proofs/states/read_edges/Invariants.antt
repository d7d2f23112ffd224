use Rattle.ux_image_reader.specs.Reading.{ReadsEdges}
use Rattle.ux_image_reader.proofs.states.read_edges.Given as goal

-- the edges so far were read, and pass
abbrev pub invariant-loop : goal.invariant-loop
invariant-loop l = ReadsEdges l.number l.counter l.initial.cursor l.cursor l.edges.items
