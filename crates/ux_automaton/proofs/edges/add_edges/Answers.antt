use Rattle.std.specs.Prelude.{Contains}
use Rattle.ux_walk.specs.Settings.{masked_setting}
use Rattle.ux_automaton.specs.Targets.{IsTargetOver}
use Rattle.ux_automaton.proofs.AddingLemmas.{adds_all, adds_first, adds_next}
use Rattle.ux_automaton.proofs.KnownLemmas.{edge_known}
use Rattle.ux_automaton.proofs.edges.add_edges.Goals as goal

pub loop-edge-init : goal.loop-edge-init
loop-edge-init c =
    adds_first (IsTargetOver (masked_setting c.args.masked.now) c.args.at c.args.stand)
    (Contains c.args.targets.now.items) c.args.edges.now

pub loop-edge-preserved : goal.loop-edge-preserved
loop-edge-preserved c =
    adds_next (IsTargetOver (masked_setting c.args.masked.now) c.args.at c.args.stand)
    (Contains c.args.targets.now.items) (Contains c.loop-edge.targets.items)
    (Contains c.add_edge.new.targets.items) c.args.edges.now c.loop-edge.edge-index
    c.edge-item.result c.loop-edge-test.true c.edge-item.is c.loop-edge.invariant
    c.in_ok-add_edge.ensures

pub returns : goal.returns
returns c =
    adds_all (IsTargetOver (masked_setting c.args.masked.now) c.args.at c.args.stand)
    (Contains c.args.targets.now.items) (Contains c.loop-edge.targets.items) c.args.edges.now
    c.loop-edge.edge-index c.loop-edge-test.false c.loop-edge.invariant

pub add_edge-requires : goal.add_edge-requires
add_edge-requires c = record {
  known = edge_known c.args.masked.now c.args.edges.now c.requires.known c.loop-edge.edge-index
      c.edge-item.result c.loop-edge-test.true c.edge-item.is;
}
