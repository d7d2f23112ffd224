use Rattle.std.proofs.Common.{◌↔◌, List, refl, subst, sym}
use Rattle.std.specs.Prelude.{Contains}
use Rattle.ux_walk.specs.declared.config.Found.{Found}
use Rattle.ux_walk.specs.declared.config.Return.{Return}
use Rattle.ux_walk.specs.declared.reached.Reached.{Reached}
use Rattle.ux_walk.specs.Groups.{IsIn}
use Rattle.ux_walk.proofs.Calling.{leave_listed}
use Rattle.ux_walk.proofs.Leaving.{leaves_known, leaves_new}
use Rattle.ux_walk.proofs.Results.{on_ok}
use Rattle.ux_walk.proofs.reached.Reached.leave.Goals as goal

pub returns : goal.returns
returns c = on_ok c.join_all.result _ _ (λ joined v before sound spells.
    let old = c.args.self.now in
    let new : Reached = record {
      events = c.join_all.new.events;
      texts = c.args.self.now.texts;
      visits = c.args.self.now.visits;
      configs = c.join_all.new.configs;
      returns = c.args.self.now.returns;
      found = c.add.new.self;
    } in
    let number = c.args.config.visit in
    let found : Found = record { end = c.args.config.at; events = c.args.config.events } in
    let callers = c.as_slice.result.now in
    let exact : (w : Return) → Contains callers w ↔ IsIn old.returns number w =
    λ w. subst (λ (l : List Return). Contains l w ↔ IsIn old.returns number w)
    (sym c.as_slice.ensures.value) (c.in_ok-returns.ensures sound.returns_grouped w) in
    leaves_new old new sound refl refl number v spells.visit found before spells.events refl
    c.in_ok-add.field-0 callers (c.in_ok-add.ensures sound.found_grouped) exact
    (joined (leave_listed old found before number callers sound spells.events exact)))
    c.join_all.ensures

pub returns-then-not-branch : goal.returns-then-not-branch
returns-then-not-branch c = λ v before sound spells.
    leaves_known c.args.self.now (record {
      events = c.args.self.now.events;
      texts = c.args.self.now.texts;
      visits = c.args.self.now.visits;
      configs = c.args.self.now.configs;
      returns = c.args.self.now.returns;
      found = c.add.new.self;
    }) sound refl refl c.args.config.visit v spells.visit
    (record { end = c.args.config.at; events = c.args.config.events }) before spells.events refl
    refl refl c.in_ok-add.field-0 c.if-not-branch.true (c.in_ok-add.ensures sound.found_grouped)
