use Rattle.std.proofs.Common.{◌∷◌, [], ℕ, refl, subst}
use Rattle.std.specs.Prelude.{Option, Some}
use Rattle.ux_folds.specs.Folding.{event_of}
use Rattle.ux_listing.specs.Moves.{goes}
use Rattle.ux_listing.proofs.FollowsLemmas.{event_dropped, follows_one}
use Rattle.ux_listing.proofs.GoingLemmas.{on_two}
use Rattle.ux_listing.proofs.following.note.Goals as goal

pub returns-in-Some-clause-follows : goal.returns-in-Some-clause-follows
returns-in-Some-clause-follows g c =
    let next = g.F.Fold.next c.add.new.self in
    on_two c.put_config.result (λ adds put.
    follows_one next (g.M.Marks.marked c.args.marks.now) c.args.config c.args.state c.args.at
    c.in-Some.after (event_of c.args.event ∷ []) c.args.next.now.items c.put_config.new.next.items (
      Some c.in-Some.after,
      subst (λ (r : Option ℕ). next c.args.config.fold (event_of c.args.event) r)
          c.in-Some.is c.in_ok-after.ensures.next,
      refl,
    ) adds put)
    c.put_config.ensures.adds c.put_config.ensures.put

pub returns-in-None-clause-follows : goal.returns-in-None-clause-follows
returns-in-None-clause-follows g c =
    let next = g.F.Fold.next c.add.new.self in
    event_dropped next (g.M.Marks.marked c.args.marks.now) c.args.config
    (goes c.args.state c.args.at) (event_of c.args.event) c.args.next.now.items
    (subst (λ (r : Option ℕ). next c.args.config.fold (event_of c.args.event) r)
    c.in-None.is c.in_ok-after.ensures.next)
