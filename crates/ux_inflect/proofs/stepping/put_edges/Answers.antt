use Rattle.std.proofs.Common.{◌∙◌, ℕ, List, [], ◌∷◌, ◌++◌, ap, map, take, get_or, sym, append_assoc}
use Rattle.ux_base.proofs.Lists.{take_whole}
use Rattle.ux_net.specs.declared.state.Edge.{Edge}
use Rattle.ux_inflect.specs.declared.stepping.Successor.{Successor}
use Rattle.ux_inflect.specs.Places.{Place, along_edge, place_of, step_of}
use Rattle.ux_inflect.proofs.ListLemmas.{map_more}
use Rattle.ux_inflect.proofs.NumberLemmas.{steps_pushed}
use Rattle.ux_inflect.proofs.stepping.put_edges.Goals as goal

pub loop-edge-preserved : goal.loop-edge-preserved
loop-edge-preserved c = λ last below at.
    let f = along_edge c.args.detail c.args.frame.graph below (place_of c.args.config.now) in
    let edges = c.args.edges.now in
    let i = c.loop-edge.edge-index in
    let edge = c.edge-item.result in
    let old = map step_of c.args.found.now.items in
    ap (λ (l : List Successor). map step_of l) c.in_ok-push.ensures.items
    ∙ (steps_pushed c.loop-edge.found.items c.in_ok-successor.successor
    ∙ (ap (λ (l : List (List ℕ × Place)). l ++ step_of c.in_ok-successor.successor ∷ [])
    (c.loop-edge.invariant last below at)
    ∙ (ap (λ (s : List ℕ × Place). (old ++ map f (take i edges)) ++ s ∷ [])
    (c.in_ok-successor.ensures last below at ∙ ap f c.edge-item.is)
    ∙ (append_assoc old (map f (take i edges)) (f (get_or edges i edge) ∷ [])
    ∙ ap (λ (l : List (List ℕ × Place)). old ++ l)
    (sym (map_more f edges i edge c.loop-edge-test.true))))))

pub returns : goal.returns
returns c = λ last below at.
    c.loop-edge.invariant last below at
    ∙ ap (λ (l : List Edge). map step_of c.args.found.now.items
    ++ map (along_edge c.args.detail c.args.frame.graph below (place_of c.args.config.now)) l)
    (take_whole c.args.edges.now c.loop-edge.edge-index c.loop-edge-test.false)
