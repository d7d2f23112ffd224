use Rattle.std.proofs.Common.{rules, ◌≡◌, ◌∙◌, ◌∷◌, [], List, ap, refl, subst, sym}
use Rattle.ux_outputs.specs.declared.event.Event.{Event}
use Rattle.ux_outputs.specs.declared.event.Event.TheVariants.{Begin, End, Cut}
use Rattle.ux_walk.specs.Configurations.{Notes}
use Rattle.ux_walk.specs.Courses.{passing}
use Rattle.ux_walk.proofs.Results.{if_ok}
use Rattle.ux_walk.proofs.Adding.{notes_alike, notes_text}
use Rattle.ux_walk.proofs.reached.Reached.note_passing.Goals as goal

pub returns-in_ok-place-in-Begin : goal.returns-in_ok-place-in-Begin
returns-in_ok-place-in-Begin c = if_ok c.note.result _ _ (λ number notes.
    let name = c.as_str.result.now in
    let is : passing c.args.label.now ≡ Begin name ∷ [] = ap passing c.in-Begin.is
    ∙ ap (λ t. Begin t ∷ []) (sym c.as_str.ensures) in
    let placed = c.in_ok-place-in-Begin.ensures in
    subst (λ (l : List Event). Notes c.args.self.now c.note.new.self l c.args.events number)
    (sym is)
    (notes_text c.args.self.now c.place.new.self c.note.new.self name c.in_ok-place-in-Begin.place
    (Begin name ∷ []) c.args.events number placed
    (notes (Begin name) (name, placed.placed.at, refl)))) c.note.ensures

pub returns-in_ok-place-in-End : goal.returns-in_ok-place-in-End
returns-in_ok-place-in-End c = if_ok c.note-in-End.result _ _ (λ number notes.
    let name = c.as_str-in-End.result.now in
    let is : passing c.args.label.now ≡ End name ∷ [] = ap passing c.in-End.is
    ∙ ap (λ t. End t ∷ []) (sym c.as_str-in-End.ensures) in
    let placed = c.in_ok-place-in-End.ensures in
    subst (λ (l : List Event). Notes c.args.self.now c.note-in-End.new.self l c.args.events number)
    (sym is)
    (notes_text c.args.self.now c.place-in-End.new.self c.note-in-End.new.self name
    c.in_ok-place-in-End.place (End name ∷ []) c.args.events number placed
    (notes (End name) (name, placed.placed.at, refl)))) c.note-in-End.ensures

pub returns-in-Cut : goal.returns-in-Cut
returns-in-Cut c = if_ok c.note-in-Cut.result _ _ (λ number notes.
    subst (λ (l : List Event). Notes c.args.self.now c.note-in-Cut.new.self l c.args.events number)
    (sym (ap passing c.in-Cut.is)) (notes Cut refl)) c.note-in-Cut.ensures

pub returns-in-Empty : goal.returns-in-Empty
returns-in-Empty c = notes_alike c.args.self.now (passing c.args.label.now)
    (search rules) c.args.events

pub returns-in-Empty-2 : goal.returns-in-Empty-2
returns-in-Empty-2 c = notes_alike c.args.self.now (passing c.args.label.now)
    (search rules) c.args.events

pub returns-in-Empty-3 : goal.returns-in-Empty-3
returns-in-Empty-3 c = notes_alike c.args.self.now (passing c.args.label.now)
    (search rules) c.args.events

pub returns-in-Empty-4 : goal.returns-in-Empty-4
returns-in-Empty-4 c = notes_alike c.args.self.now (passing c.args.label.now)
    (search rules) c.args.events

pub returns-in-Empty-5 : goal.returns-in-Empty-5
returns-in-Empty-5 c = notes_alike c.args.self.now (passing c.args.label.now)
    (search rules) c.args.events

pub returns-in-Empty-6 : goal.returns-in-Empty-6
returns-in-Empty-6 c = notes_alike c.args.self.now (passing c.args.label.now)
    (search rules) c.args.events

pub returns-in-Empty-7 : goal.returns-in-Empty-7
returns-in-Empty-7 c = notes_alike c.args.self.now (passing c.args.label.now)
    (search rules) c.args.events

pub returns-in-Empty-8 : goal.returns-in-Empty-8
returns-in-Empty-8 c = notes_alike c.args.self.now (passing c.args.label.now)
    (search rules) c.args.events

pub returns-in-Empty-9 : goal.returns-in-Empty-9
returns-in-Empty-9 c = notes_alike c.args.self.now (passing c.args.label.now)
    (search rules) c.args.events

pub returns-in-Empty-10 : goal.returns-in-Empty-10
returns-in-Empty-10 c = notes_alike c.args.self.now (passing c.args.label.now)
    (search rules) c.args.events

pub returns-in-Empty-11 : goal.returns-in-Empty-11
returns-in-Empty-11 c = notes_alike c.args.self.now (passing c.args.label.now)
    (search rules) c.args.events
