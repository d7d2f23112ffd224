use Rattle.std.proofs.Common.{◌≡◌, ◌∙◌, List, ℕ, ap, map, sym, Some}
use Rattle.std.specs.Prelude.{Option, option_map}
use Rattle.std.specs.Str.{chars}
use Rattle.std.proofs.lemmas.Iterator.{YieldsList-from_chars}
use Rattle.std.proofs.lemmas.Iterator.Consumers.{YieldsList-end}
use Rattle.std.proofs.lemmas.List.{map-id}
use Rattle.ux_inflect.specs.declared.stroke.Stroke.{Stroke}
use Rattle.ux_inflect.specs.Places.{cursor_of, stroke_by}
use Rattle.ux_inflect.specs.Strokes.{Cursor, also, all_stroked}
use Rattle.ux_inflect.proofs.ListLemmas.{strokes_more}
use Rattle.ux_inflect.proofs.form.take_text.Goals as goal

pub loop-c-preserved : goal.loop-c-preserved
loop-c-preserved c =
    let f = stroke_by c.args.taking c.args.detail in
    c.in_ok-form.ensures
    ∙ (ap (λ (s : Stroke). also s (option_map cursor_of c.loop-c.form)) c.stroke_from.ensures
    ∙ (ap (λ (o : Option Cursor). also (f c.in-Some.c) o) c.loop-c.invariant
    ∙ sym (strokes_more f c.loop-c.yielded c.in-Some.c (Some (cursor_of c.args.form)))))

pub returns : goal.returns
returns c =
    let t = YieldsList-end (YieldsList-from_chars c.args.text.now c.utf8.text cc)
    c.loop-c.yielded _ c.loop-c.yielded_by _ _ c.in-None.is c.next.ensures.steps in
    let whole : c.loop-c.yielded ≡ chars c.args.text.now =
    sym (map-id c.loop-c.yielded) ∙ t.0 in
    c.loop-c.invariant ∙ ap (λ (l : List ℕ). all_stroked
    (map (stroke_by c.args.taking c.args.detail) l) (Some (cursor_of c.args.form))) whole
