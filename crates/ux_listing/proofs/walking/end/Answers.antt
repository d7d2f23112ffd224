use Rattle.std.proofs.Common.{◌≡◌, List, ℕ, refl, subst}
use Rattle.std.specs.Prelude.{Contains}
use Rattle.ux_walk.specs.Settings.{masked_setting}
use Rattle.ux_listing.specs.Reaching.{AreJoined}
use Rattle.ux_listing.specs.Walking.{IsKnown}
use Rattle.ux_listing.proofs.GoingLemmas.{ended, on_two}
use Rattle.ux_listing.proofs.walking.end.Goals as goal

pub returns-clause-reached : goal.returns-clause-reached
returns-clause-reached g c =
    let fold = c.args.fold.now in
    let told = g.O.Origins.told c.join_waits.new.origins in
    let old = c.args.reached.now in
    on_two c.join_waits.result (λ stays joins.
    ended (masked_setting c.args.masked.now) (g.C.Contexts.applies c.args.contexts.now) c.args.start
    c.args.first (g.M.Marks.marked c.args.marks.now) (g.F.Fold.next fold)
    (IsKnown (g.F.Fold.means fold))
    (λ s e u h. g.met.F.Fold.lands fold s e u h)
    (g.O.Origins.told c.args.origins.now) told stays old
    (record { seen = c.join_waits.new.seen; waits = old.waits; found = c.add.new.self })
    c.args.next c.requires.reached c.args.found c.requires.next c.in_ok-add.ensures refl
    c.in_ok-waits.waits.items c.in_ok-waits.ensures
    (subst (λ (l : List ℕ). AreJoined (g.M.Marks.marked c.args.marks.now)
    (λ i j. (j ≡ c.args.next) × Contains l i) old.seen.keys c.join_waits.new.seen.keys told)
    c.as_slice.ensures.value joins)) c.join_waits.ensures.told c.join_waits.ensures.joined
