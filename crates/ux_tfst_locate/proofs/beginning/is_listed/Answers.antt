use Rattle.std.proofs.Common.{◌∙◌, refl, sym, subst}
use Rattle.std.specs.Prelude.{Contains}
use Rattle.std.proofs.lemmas.Option.{same_Some, none-some}
use Rattle.ux_tfst_locate.proofs.beginning.is_listed.Goals as goal

pub returns-in-Some : goal.returns-in-Some
returns-in-Some c = (
  λ t n is. subst (λ m. Contains c.args.row.now m)
      (same_Some c.in-Some.number n (sym c.in-Some.is ∙ (c.number.ensures ∙ is)))
      (c.is_among.ensures.0 t),
  λ all. c.is_among.ensures.1 (all c.in-Some.number (sym c.number.ensures ∙ c.in-Some.is)),
)

pub returns-in-None : goal.returns-in-None
returns-in-None c = (
  λ t n is. absurd (none-some n (sym c.in-None.is ∙ (c.number.ensures ∙ is))),
  λ all. refl,
)
