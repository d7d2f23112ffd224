use Rattle.std.proofs.Common.{◌≡◌, ◌∙◌, ◌∷◌, [], ap, sym}
use Rattle.ux_outputs.specs.declared.event.Event.TheVariants.{Put, Value}
use Rattle.ux_walk.specs.Courses.{put_event}
use Rattle.ux_walk.proofs.Results.{if_ok}
use Rattle.ux_walk.proofs.Adding.{notes_text}
use Rattle.ux_walk.proofs.reached.Reached.put_piece.Goals as goal

pub returns-in_ok-place-in-Chars : goal.returns-in_ok-place-in-Chars
returns-in_ok-place-in-Chars c = if_ok c.note.result _ _ (λ number notes.
    let event = put_event c.args.piece.now in
    let text = c.as_str.result.now in
    let is : event ≡ Put text = ap put_event c.in-Chars.is ∙ ap Put (sym c.as_str.ensures) in
    let placed = c.in_ok-place-in-Chars.ensures in
    notes_text c.args.self.now c.place.new.self c.note.new.self text c.in_ok-place-in-Chars.place
    (event ∷ []) c.args.events number placed (notes event (text, placed.placed.at, is)))
    c.note.ensures

pub returns-in_ok-place-in-Value : goal.returns-in_ok-place-in-Value
returns-in_ok-place-in-Value c = if_ok c.note-in-Value.result _ _ (λ number notes.
    let event = put_event c.args.piece.now in
    let name = c.as_str-in-Value.result.now in
    let is : event ≡ Value name = ap put_event c.in-Value.is
    ∙ ap Value (sym c.as_str-in-Value.ensures) in
    let placed = c.in_ok-place-in-Value.ensures in
    notes_text c.args.self.now c.place-in-Value.new.self c.note-in-Value.new.self name
    c.in_ok-place-in-Value.place
    (event ∷ []) c.args.events number placed (notes event (name, placed.placed.at, is)))
    c.note-in-Value.ensures
