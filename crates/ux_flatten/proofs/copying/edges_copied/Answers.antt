use Rattle.std.proofs.Common.{arith, ◌≡◌, ◌+◌, ◌++◌, ◌∙◌, ℕ, List, [], refl, sym, ap, append-nil, drop, sum_by}
use Rattle.ux_base.proofs.Lists.{drop_whole}
use Rattle.ux_net.specs.declared.state.Edge.{Edge}
use Rattle.ux_flatten.specs.Making.{edges_in, pending_in, room_in}
use Rattle.ux_flatten.proofs.MakingLemmas.{edges_more, next_more, pending_more}
use Rattle.ux_flatten.proofs.copying.edges_copied.Goals as goal

pub loop-edge-init : goal.loop-edge-init
loop-edge-init c =
    let whole : List Edge = edges_in c.args.source.now c.args.copy c.args.next.now c.args.edges.now in
    record {
      edges = ap (λ (l : List Edge). l ++ whole) c.new-made.ensures.items;
      next = refl;
      inner = refl;
    }

pub loop-edge-preserved : goal.loop-edge-preserved
loop-edge-preserved c =
    let source = c.args.source.now in
    let copy = c.args.copy in
    let edges = c.args.edges.now in
    let i = c.loop-edge.edge-index in
    let next = c.loop-edge.next in
    let below = c.loop-edge-test.true in
    let at = c.edge-item.is in
    let on : c.in_ok-next.field-0 ≡ next + room_in source copy c.edge-item.result =
    c.in_ok-next.ensures ∙ ap (λ (n : ℕ). next + n) c.room.ensures in
    record {
      edges = edges_more source copy edges i next c.in_ok-next.field-0 c.edge-item.result
          c.in_ok-edge_copied.field-0 c.loop-edge.made.items c.push.new.self.items
          (edges_in source copy c.args.next.now edges) below at c.loop-edge.invariant.edges
          c.in_ok-edge_copied.ensures c.in_ok-push.ensures.items on;
      next = next_more source copy edges i next c.in_ok-next.field-0
          (c.args.next.now + sum_by (room_in source copy) edges) c.edge-item.result below at
          c.loop-edge.invariant.next on;
      inner = pending_more source copy edges i next c.in_ok-next.field-0 c.edge-item.result
          c.loop-edge.inner.items c.push_pending.new.inner.items
          (c.args.inner.now.items ++ pending_in source copy c.args.next.now edges) below at
          c.loop-edge.invariant.inner c.in_ok-push_pending.ensures on;
    }

pub returns : goal.returns
returns c =
    let source = c.args.source.now in
    let copy = c.args.copy in
    let edges = c.args.edges.now in
    let next = c.loop-edge.next in
    let none : drop c.loop-edge.edge-index edges ≡ [] =
    drop_whole edges c.loop-edge.edge-index c.loop-edge-test.false in
    let room : sum_by (room_in source copy) (drop c.loop-edge.edge-index edges) ≡ 0 =
    ap (sum_by (room_in source copy)) none in
    record {
      edges = sym (append-nil c.loop-edge.made.items)
          ∙ (ap (λ (l : List Edge). c.loop-edge.made.items ++ edges_in source copy next l) (sym none)
          ∙ c.loop-edge.invariant.edges);
      next = omega (arith, room, c.loop-edge.invariant.next);
      inner = sym (append-nil c.loop-edge.inner.items)
          ∙ (ap (λ (l : List Edge). c.loop-edge.inner.items ++ pending_in source copy next l) (sym none)
          ∙ c.loop-edge.invariant.inner);
    }
