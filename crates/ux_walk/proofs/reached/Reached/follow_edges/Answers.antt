use Rattle.std.proofs.Common.{[], sym}
use Rattle.ux_walk.specs.Courses.{IsOver}
use Rattle.ux_walk.proofs.Keeping.{keeps, spells_kept}
use Rattle.ux_walk.proofs.Stepping.{adds_first, adds_next, adds_all}
use Rattle.ux_mask_table.proofs.KnownLabels.{edge_known}
use Rattle.ux_walk.proofs.reached.Reached.follow_edges.Goals as goal

pub follow-requires-clause-known : goal.follow-requires-clause-known
follow-requires-clause-known g c =
    edge_known c.args.masked.now c.args.edges.now c.edge-item.result c.requires.known
    (c.loop-edge.edge-index, c.loop-edge-test.true, sym c.edge-item.is)

pub loop-edge-init : goal.loop-edge-init
loop-edge-init g c = λ v before sound spells.
    let masked = c.args.masked.now in
    adds_first v (IsOver masked.alphabet.now masked.text.now masked.applied.now
    (g.C.Contexts.applies c.args.contexts.now) c.args.config.here []
    c.args.config.at before) c.args.self.now c.args.edges.now sound

pub loop-edge-preserved : goal.loop-edge-preserved
loop-edge-preserved g c = λ v before sound spells.
    let masked = c.args.masked.now in
    let now = c.loop-edge.invariant v before sound spells in
    adds_next v (IsOver masked.alphabet.now masked.text.now masked.applied.now
    (g.C.Contexts.applies c.args.contexts.now) c.args.config.here []
    c.args.config.at before) c.args.self.now c.loop-edge.self c.follow.new.self c.args.edges.now
    c.loop-edge.edge-index c.edge-item.result c.loop-edge-test.true c.edge-item.is now
    (c.in_ok-follow.ensures v before now.sound
    (spells_kept c.args.self.now c.loop-edge.self (keeps now) c.args.config v before spells))

pub returns : goal.returns
returns g c = λ v before sound spells.
    let masked = c.args.masked.now in
    adds_all v (IsOver masked.alphabet.now masked.text.now masked.applied.now
    (g.C.Contexts.applies c.args.contexts.now) c.args.config.here []
    c.args.config.at before) c.args.self.now c.loop-edge.self c.args.edges.now
    c.loop-edge.edge-index c.loop-edge-test.false (c.loop-edge.invariant v before sound spells)
