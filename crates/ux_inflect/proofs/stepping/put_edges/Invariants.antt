use Rattle.std.proofs.Common.{◌≡◌, ◌∷◌, ◌++◌, List, map, take}
use Rattle.std.specs.Prelude.{reverse}
use Rattle.ux_inflect.specs.declared.config.Frame.{Frame}
use Rattle.ux_inflect.specs.Places.{along_edge, place_of, step_of}
use Rattle.ux_inflect.proofs.stepping.put_edges.Given as goal

-- the steps along the edges so far are there
abbrev pub invariant-loop-edge : goal.invariant-loop-edge
invariant-loop-edge l = (last : Frame) (below : List Frame) →
    reverse l.config.frames.items ≡ last ∷ below → map step_of l.found.items ≡
    map step_of l.fn.found.items
    ++ map (along_edge l.detail l.frame.graph below (place_of l.config)) (take l.edge-index l.edges)
