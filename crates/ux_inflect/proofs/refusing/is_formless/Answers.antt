use Rattle.std.proofs.Common.{◌≡◌, ◌∙◌, ap, Some}
use Rattle.std.specs.Prelude.{option_map}
use Rattle.ux_inflect.specs.Places.{cursor_of}
use Rattle.ux_inflect.specs.Strokes.{Cursor}
use Rattle.ux_inflect.proofs.refusing.is_formless.Goals as goal

pub returns-in-Some : goal.returns-in-Some
returns-in-Some c =
    let form = c.in-Some.form in
    let at : option_map cursor_of c.args.config.now.form ≡ Some (cursor_of form) =
    ap (option_map cursor_of) c.in-Some.is in (
      λ t. (cursor_of form, at, c.is_bare.ensures.0 t),
      λ h.
          let same : cursor_of form ≡ h.0 = cc (at, h.1) in
          c.is_bare.ensures.1 (ap (λ (x : Cursor). x.left) same ∙ h.2),
    )
