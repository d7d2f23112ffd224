use Rattle.std.proofs.Common.{◌≡◌, List, [], ◌∷◌, ◌++◌, refl, sym, ◌∙◌, subst}
use Rattle.std.specs.Prelude.{Some}
use Rattle.ux_outputs.specs.declared.event.Event.{Event}
use Rattle.ux_outputs.specs.Rendering.{render}
use Rattle.ux_locate.proofs.HitLemmas.{hit_pushed}
use Rattle.ux_locate.proofs.from_start.add_rendered.Goals as goal

pub returns-in_ok-add_best : goal.returns-in_ok-add_best
returns-in_ok-add_best c seen are =
    let search = c.args.search.now in
    let hit = c.in-Some.hit in (
      seen ++ hit ∷ [],
      hit_pushed search c.args.start c.args.derivation.now hit
          (subst (λ (events : List Event). render search.masked.now.text.now search.mode search.novar
          c.args.start events ≡ Some hit) c.as_slice-events.ensures
          (sym c.in_ok-hit.ensures ∙ c.in-Some.is)) seen (seen ++ hit ∷ []) refl,
      c.in_ok-add_best.ensures seen are,
    )
