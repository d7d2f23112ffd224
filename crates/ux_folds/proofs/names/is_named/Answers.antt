use Rattle.std.proofs.Common.{◌∙◌, ap, refl, sym}
use Rattle.std.specs.Prelude.{Some}
use Rattle.std.proofs.lemmas.Bool.{false≢true}
use Rattle.std.proofs.lemmas.Option.{none-some, same_Some, slice_get_past, slice_get_read}
use Rattle.std.proofs.lemmas.Slice.Eq.{bytes_eq-Decides}
use Rattle.ux_folds.proofs.names.is_named.Goals as goal

pub returns-in-Some : goal.returns-in-Some
returns-in-Some c =
    let item = c.in-Some.ensures.lookup in
    let at = slice_get_read c.args.names.now _ c.args.place c.in-Some.counted.now refl item.3.0
    item.1 in
    let tells = bytes_eq-Decides c.as_str.result.now c.args.name.now in (
      λ same. at ∙ ap Some (sym c.as_str.ensures ∙ tells.0 (sym c.eq.ensures ∙ same)),
      λ stands. c.eq.ensures ∙ tells.1 (c.as_str.ensures ∙ same_Some _ _ (sym at ∙ stands)),
    )

pub returns-in-None : goal.returns-in-None
returns-in-None c = (
  λ same. absurd (false≢true same),
  λ stands. absurd (none-some _ (sym (slice_get_past c.args.names.now c.args.place
      c.in-None.ensures.lookup.3) ∙ stands)),
)
