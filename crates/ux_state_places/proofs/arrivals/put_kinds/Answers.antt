use Rattle.std.proofs.Common.{arith, ◌≡◌, ◌∙◌, ◌<◌, length, refl, ap, set, ◌++◌, ◌∷◌, []}
use Rattle.std.specs.Prelude.{Contains, slice_get, Some}
use Rattle.std.proofs.lemmas.Option.{slice_get_read}
use Rattle.ux_base.proofs.OrderedLists.{Contains-at}
use Rattle.ux_state_places.specs.declared.arrival.Kind.{Kind}
use Rattle.ux_state_places.specs.Arriving.{kinds_at, IsLedInto}
use Rattle.ux_state_places.proofs.ArrivingLemmas.{below_next, below_done, edge_put}
use Rattle.ux_state_places.proofs.arrivals.put_kinds.Goals as goal

pub put-requires : goal.put-requires
put-requires c =
    let at : slice_get c.args.edges.now c.loop-edge.edge-index ≡ Some c.edge-item.result =
    slice_get_read c.args.edges.now (length c.args.edges.now) c.loop-edge.edge-index
    c.edge-item.result refl c.loop-edge-test.true c.edge-item.is in
    let inside = c.requires.inside c.edge-item.result
    (Contains-at c.args.edges.now c.edge-item.result c.loop-edge.edge-index at) in
    let len = c.loop-edge.invariant.len in
    record { inside = omega (arith, inside, len) }

pub loop-edge-preserved : goal.loop-edge-preserved
loop-edge-preserved c =
    let at : slice_get c.args.edges.now c.loop-edge.edge-index ≡ Some c.edge-item.result =
    slice_get_read c.args.edges.now (length c.args.edges.now) c.loop-edge.edge-index
    c.edge-item.result refl c.loop-edge-test.true c.edge-item.is in
    let inside = c.requires.inside c.edge-item.result
    (Contains-at c.args.edges.now c.edge-item.result c.loop-edge.edge-index at) in
    let len = c.loop-edge.invariant.len in
    let below : c.edge-item.result.target < length c.loop-edge.rows.items =
    omega (arith, inside, len) in
    record {
      len = c.in_ok-put.ensures.len ∙ c.loop-edge.invariant.len;
      kinds = λ n kind. below_next c.args.edges.now (IsLedInto n kind)
          (Contains (kinds_at c.args.rows.now.items n) kind)
          (Contains (kinds_at c.loop-edge.rows.items n) kind)
          (Contains (kinds_at c.put.new.rows.items n) kind) c.loop-edge.edge-index
          c.edge-item.result at (c.loop-edge.invariant.kinds n kind)
          (edge_put c.loop-edge.rows.items c.put.new.rows.items c.edge-item.result below
          (c.in_ok-put.ensures.put ∙ ap (λ (k : Kind). set c.loop-edge.rows.items
          c.edge-item.result.target (kinds_at c.loop-edge.rows.items c.edge-item.result.target
          ++ k ∷ [])) c.kind_of_label.ensures) n kind);
    }

pub returns-clause-kinds : goal.returns-clause-kinds
returns-clause-kinds c = λ n kind.
    below_done c.args.edges.now (IsLedInto n kind)
    (Contains (kinds_at c.args.rows.now.items n) kind)
    (Contains (kinds_at c.loop-edge.rows.items n) kind) c.loop-edge.edge-index
    c.loop-edge-test.false (c.loop-edge.invariant.kinds n kind)
