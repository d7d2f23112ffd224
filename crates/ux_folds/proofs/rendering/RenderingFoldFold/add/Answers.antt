use Rattle.std.proofs.Common.{subst, sym}
use Rattle.std.specs.Prelude.{Option}
use Rattle.ux_folds.specs.declared.kept.Kept.{Kept}
use Rattle.ux_folds.specs.Folding.{event_of}
use Rattle.ux_folds.specs.Following.{IsFollowed}
use Rattle.ux_folds.proofs.RenderingLemmas.{fold_dropped, fold_numbered, is_there, kept_stands}
use Rattle.ux_folds.proofs.rendering.RenderingFoldFold.add.Goals as goal

pub returns-in_default-clause-grows : goal.returns-in_default-clause-grows
returns-in_default-clause-grows c =
    absurd (is_there c.args.self.now c.args.state c.requires (sym c.in_default.ensures))

pub returns-in_default-clause-next : goal.returns-in_default-clause-next
returns-in_default-clause-next c =
    absurd (is_there c.args.self.now c.args.state c.requires (sym c.in_default.ensures))

pub follow-requires : goal.follow-requires
follow-requires c = (kept_stands c.args.self.now c.args.state c.requires c.in-Some.kept
    (sym c.in-Some.ensures)).within

pub returns-in_ok-number-in-Some-next-clause-grows : goal.returns-in_ok-number-in-Some-next-clause-grows
returns-in_ok-number-in-Some-next-clause-grows c =
    let fold = c.args.self.now in
    (fold_numbered fold c.args.state c.requires c.follow.new.self c.number.new.self
    c.in_ok-number-in-Some-next.field-0 c.in-Some.kept c.in-Some-next.kept (event_of c.args.event)
    (sym c.in-Some.ensures)
    (subst (λ (o : Option Kept). IsFollowed fold.text.now fold.mode fold.novar fold.names.now
    fold.tables c.follow.new.self c.in-Some.kept (event_of c.args.event) o) c.in-Some-next.is
    c.in_ok-next.ensures) c.in_ok-number-in-Some-next.ensures.tables).0

pub returns-in_ok-number-in-Some-next-clause-next : goal.returns-in_ok-number-in-Some-next-clause-next
returns-in_ok-number-in-Some-next-clause-next c =
    let fold = c.args.self.now in
    (fold_numbered fold c.args.state c.requires c.follow.new.self c.number.new.self
    c.in_ok-number-in-Some-next.field-0 c.in-Some.kept c.in-Some-next.kept (event_of c.args.event)
    (sym c.in-Some.ensures)
    (subst (λ (o : Option Kept). IsFollowed fold.text.now fold.mode fold.novar fold.names.now
    fold.tables c.follow.new.self c.in-Some.kept (event_of c.args.event) o) c.in-Some-next.is
    c.in_ok-next.ensures) c.in_ok-number-in-Some-next.ensures.tables).1

pub returns-in-None-clause-grows : goal.returns-in-None-clause-grows
returns-in-None-clause-grows c =
    let fold = c.args.self.now in
    (fold_dropped fold c.args.state c.requires c.follow.new.self c.in-Some.kept
    (event_of c.args.event) (sym c.in-Some.ensures)
    (subst (λ (o : Option Kept). IsFollowed fold.text.now fold.mode fold.novar fold.names.now
    fold.tables c.follow.new.self c.in-Some.kept (event_of c.args.event) o) c.in-None.is
    c.in_ok-next.ensures)).0

pub returns-in-None-clause-next : goal.returns-in-None-clause-next
returns-in-None-clause-next c =
    let fold = c.args.self.now in
    (fold_dropped fold c.args.state c.requires c.follow.new.self c.in-Some.kept
    (event_of c.args.event) (sym c.in-Some.ensures)
    (subst (λ (o : Option Kept). IsFollowed fold.text.now fold.mode fold.novar fold.names.now
    fold.tables c.follow.new.self c.in-Some.kept (event_of c.args.event) o) c.in-None.is
    c.in_ok-next.ensures)).1
