use Rattle.std.proofs.Common.{◌≡◌, ◌↔◌, ◌∙◌, true, sym, refl, subst}
use Rattle.std.proofs.lemmas.Bool.{false≢true}
use Rattle.ux_chart_contexts.specs.Telling.{DerivesSome, IsAskedOf, Levelled}
use Rattle.ux_chart_contexts.proofs.contexts.ChartContextsContexts.enters.Goals as goal

pub returns-then-not-is_asked_of : goal.returns-then-not-is_asked_of
returns-then-not-is_asked_of c = (
  λ yes asked. absurd (false≢true (sym c.if-not-is_asked_of.true ∙ c.is_asked_of.ensures.1
      (subst (λ (t : Levelled). IsAskedOf t.setting c.args.graph c.args.at) (sym c.self.view_is)
      asked))),
  λ enters. refl,
)

pub returns : goal.returns
returns c = subst (λ (t : Levelled). (c.derives_some.result ≡ true)
    ↔ (IsAskedOf t.setting c.args.graph c.args.at →
    DerivesSome t.setting c.args.graph c.args.at)) c.self.view_is (
      λ yes asked. c.derives_some.ensures.0 yes,
      λ enters. c.derives_some.ensures.1
          (enters (c.is_asked_of.ensures.0 c.if-not-is_asked_of.false)),
    )
