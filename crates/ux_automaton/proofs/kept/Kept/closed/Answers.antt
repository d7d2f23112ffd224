use Rattle.std.proofs.Common.{refl}
use Rattle.ux_automaton.specs.declared.kept.Kept.{Kept}
use Rattle.ux_walk.specs.Settings.{masked_setting}
use Rattle.ux_automaton.proofs.CacheLemmas.{closed_put, right_kept}
use Rattle.ux_automaton.proofs.kept.Kept.closed.Goals as goal

pub returns-clause-right : goal.returns-clause-right
returns-clause-right c =
    let old = c.args.self.now in
    let mid : Kept = record old { fronts = c.close.new.fronts } in
    let new : Kept = record mid { closures = c.put.new.self } in
    closed_put (masked_setting c.args.masked.now) mid new
    (right_kept (masked_setting c.args.masked.now) old mid c.requires.right c.in_ok-closed.ensures.grows
    refl refl refl refl) refl refl refl refl c.args.front c.args.is_spaced c.in_ok-closed.closed
    c.in_ok-closed.ensures.closed c.in_ok-put.ensures
