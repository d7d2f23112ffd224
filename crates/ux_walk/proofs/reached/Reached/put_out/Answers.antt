use Rattle.std.proofs.Common.{List, reverse, subst}
use Rattle.std.proofs.lemmas.List.{take_all}
use Rattle.ux_grf.specs.declared.item.Piece.{Piece}
use Rattle.ux_walk.specs.Configurations.{Notes}
use Rattle.ux_walk.specs.Courses.{put_events}
use Rattle.ux_walk.proofs.Adding.{notes_nothing, notes_piece}
use Rattle.ux_walk.proofs.reached.Reached.put_out.Goals as goal

pub loop-piece-init : goal.loop-piece-init
loop-piece-init c = notes_nothing c.args.self.now c.args.events

pub loop-piece-preserved : goal.loop-piece-preserved
loop-piece-preserved c =
    notes_piece c.args.self.now c.loop-piece.self c.put_piece.new.self c.args.output.now
    c.loop-piece.piece-index c.piece-item.result c.args.events c.loop-piece.number
    c.in_ok-number.number c.loop-piece-test.true c.piece-item.is c.loop-piece.invariant
    c.in_ok-number.ensures

pub returns : goal.returns
returns c = subst (λ (l : List Piece). Notes c.args.self.now c.loop-piece.self
    (reverse (put_events l)) c.args.events c.loop-piece.number)
    (take_all c.loop-piece.piece-index c.args.output.now c.loop-piece-test.false)
    c.loop-piece.invariant
