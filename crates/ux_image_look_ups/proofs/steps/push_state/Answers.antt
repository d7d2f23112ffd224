use Rattle.std.proofs.Common.{◌↔◌, ◌⊎◌, List, get_or, inl, inr, subst, arith}
use Rattle.std.specs.Prelude.{Contains}
use Rattle.std.proofs.lemmas.List.{get_or_default, take_all}
use Rattle.ux_dawg.specs.declared.state.Edge.{Edge}
use Rattle.ux_image_look_ups.proofs.StepLemmas.{by_edges_goes, edges-more, GoesBy}
use Rattle.ux_image_look_ups.proofs.steps.push_state.Goals as goal

pub loop-edge-preserved : goal.loop-edge-preserved
loop-edge-preserved c =
    let edges = c.edges-edge-items.result.now in
    let i = c.loop-edge.edge-index in
    let bare_edge : Edge = record { letter = 0; target = 0 } in
    let edge = get_or edges i bare_edge in
    let less = c.loop-edge-test.true in
    edges-more c.args.taken.now edges i edge c.args.next.now c.loop-edge.next c.push_edge.new.next
    less (get_or_default edges i bare_edge edge less) c.loop-edge.invariant
    c.in_ok-push_edge.ensures

pub returns : goal.returns
returns c t =
    let taken = c.args.taken.now in
    let edges = c.edges-edge-items.result.now in
    let goes = by_edges_goes c.args.states.now taken c.args.state edges c.edges-edge-items.ensures t in
    let all = subst (λ (l : List Edge). Contains c.loop-edge.next t
    ↔ (Contains c.args.next.now t ⊎ GoesBy taken l t))
    (take_all c.loop-edge.edge-index edges (omega (arith, c.loop-edge-test.false)))
    (c.loop-edge.invariant t) in (
      λ has. elim (all.0 has) [
        | inl there ↦ inl there
        | inr by_edge ↦ inr (goes.0 by_edge)
      ],
      λ has. all.1 (elim has [
        | inl there ↦ inl there
        | inr led ↦ inr (goes.1 led)
      ]),
    )
