use Rattle.std.proofs.Common.{◌∙◌, ◌∷◌, [], List, ap, sym, subst}
use Rattle.std.proofs.lemmas.Result.{on_ok_weaker}
use Rattle.ux_outputs.specs.declared.event.Event.{Event}
use Rattle.ux_outputs.specs.declared.event.Event.TheVariants.{Begin, End}
use Rattle.ux_walk.specs.Courses.{passing}
use Rattle.ux_listing.specs.Moves.{Only, goes}
use Rattle.ux_listing.specs.Walking.{Follows}
use Rattle.ux_listing.proofs.following.pass.Goals as goal

pub returns-in-Begin-clause-follows : goal.returns-in-Begin-clause-follows
returns-in-Begin-clause-follows g c = on_ok_weaker c.note.result
    (subst (λ (l : List Event). Follows (g.F.Fold.next c.note.new.fold)
    (g.M.Marks.marked c.args.marks.now) c.args.config (Only (goes c.args.target c.args.config.at) l)
    c.args.next.now.items c.note.new.next.items)
    (sym (ap passing c.in-Begin.is ∙ ap (λ t. Begin t ∷ []) (sym c.as_str.ensures))))
    c.note.ensures.follows

pub returns-in-End-clause-follows : goal.returns-in-End-clause-follows
returns-in-End-clause-follows g c = on_ok_weaker c.note-in-End.result
    (subst (λ (l : List Event). Follows (g.F.Fold.next c.note-in-End.new.fold)
    (g.M.Marks.marked c.args.marks.now) c.args.config (Only (goes c.args.target c.args.config.at) l)
    c.args.next.now.items c.note-in-End.new.next.items)
    (sym (ap passing c.in-End.is ∙ ap (λ t. End t ∷ []) (sym c.as_str-in-End.ensures))))
    c.note-in-End.ensures.follows

pub returns-in-Cut-clause-follows : goal.returns-in-Cut-clause-follows
returns-in-Cut-clause-follows g c = on_ok_weaker c.note-in-Cut.result
    (subst (λ (l : List Event). Follows (g.F.Fold.next c.note-in-Cut.new.fold)
    (g.M.Marks.marked c.args.marks.now) c.args.config (Only (goes c.args.target c.args.config.at) l)
    c.args.next.now.items c.note-in-Cut.new.next.items) (sym (ap passing c.in-Cut.is)))
    c.note-in-Cut.ensures.follows
