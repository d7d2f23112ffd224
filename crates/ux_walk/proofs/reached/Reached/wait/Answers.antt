use Rattle.std.proofs.Common.{◌↔◌, List, refl, subst, sym}
use Rattle.std.specs.Prelude.{Contains}
use Rattle.ux_walk.specs.declared.config.Found.{Found}
use Rattle.ux_walk.specs.declared.reached.Reached.{Reached}
use Rattle.ux_walk.specs.Groups.{IsIn}
use Rattle.ux_walk.proofs.Calling.{wait_listed}
use Rattle.ux_walk.proofs.Waiting.{waits_known, waits_new}
use Rattle.ux_walk.proofs.Results.{on_ok}
use Rattle.ux_walk.proofs.reached.Reached.wait.Goals as goal

pub returns : goal.returns
returns c = on_ok c.join_all.result _ _ (λ joined v before sound callee visit names.
    let old = c.args.self.now in
    let new : Reached = record {
      events = c.join_all.new.events;
      texts = c.args.self.now.texts;
      visits = c.args.self.now.visits;
      configs = c.join_all.new.configs;
      returns = c.add.new.self;
      found = c.args.self.now.found;
    } in
    let number = c.args.number in
    let derived = c.as_slice.result.now in
    let exact : (f : Found) → Contains derived f ↔ IsIn old.found number f =
    λ f. subst (λ (l : List Found). Contains l f ↔ IsIn old.found number f)
    (sym c.as_slice.ensures.value) (c.in_ok-derived.ensures sound.found_grouped f) in
    waits_new old new sound refl refl number c.args.called callee c.args.waiting v before visit
    names refl c.in_ok-add.field-0 c.in_ok-add-2.field-0 c.beginning.result c.add-2.new.set.keys
    derived (c.in_ok-add.ensures sound.returns_grouped) c.beginning.ensures
    c.in_ok-add-2.ensures exact
    (joined (wait_listed old c.args.waiting before number derived sound names exact)))
    c.join_all.ensures

pub returns-then-not-branch : goal.returns-then-not-branch
returns-then-not-branch c = λ v before sound callee visit names.
    waits_known c.args.self.now (record {
      events = c.args.self.now.events;
      texts = c.args.self.now.texts;
      visits = c.args.self.now.visits;
      configs = c.args.self.now.configs;
      returns = c.add.new.self;
      found = c.args.self.now.found;
    }) sound refl refl c.args.number c.args.called callee
    c.args.waiting v before visit names refl refl refl c.in_ok-add.field-0 c.if-not-branch.true
    (c.in_ok-add.ensures sound.returns_grouped)
