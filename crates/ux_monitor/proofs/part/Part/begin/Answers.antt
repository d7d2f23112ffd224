use Rattle.std.proofs.Common.{◌≡◌, ◌∙◌, List, ap, refl, subst}
use Rattle.std.proofs.lemmas.Result.{IfOk-weaker}
use Rattle.ux_monitor.specs.declared.rule.Step.{Step}
use Rattle.ux_monitor.specs.Parts.{RulePart}
use Rattle.ux_monitor.specs.Remembering.{BeginsAs}
use Rattle.ux_monitor.proofs.PartsLemmas.{named-right, right-named}
use Rattle.ux_monitor.proofs.part.Part.begin.Goals as goal

pub returns-clause-right : goal.returns-clause-right
returns-clause-right c =
    let part = c.args.self.now in
    let steps = c.steps.result.now in
    let ends = c.ends.result.now in
    let kinds = part.over.kinds in
    let is_steps : steps ≡ part.over.rule.steps =
    c.steps.ensures ∙ ap (λ (p : RulePart). p.over.rule.steps) c.self.view_is in
    let is_ends : ends ≡ part.over.rule.ends =
    c.ends.ensures ∙ ap (λ (p : RulePart). p.over.rule.ends) c.self.view_is in
    right-named part steps ends kinds c.begin.new.self is_steps is_ends refl
    (c.begin.ensures.right kinds
    (named-right part steps ends kinds c.args.memory.now is_steps is_ends refl c.requires))

pub returns-clause-begun : goal.returns-clause-begun
returns-clause-begun c =
    let part = c.args.self.now in
    let steps = c.steps.result.now in
    let ends = c.ends.result.now in
    let kinds = part.over.kinds in
    let is_steps : steps ≡ part.over.rule.steps =
    c.steps.ensures ∙ ap (λ (p : RulePart). p.over.rule.steps) c.self.view_is in
    let is_ends : ends ≡ part.over.rule.ends =
    c.ends.ensures ∙ ap (λ (p : RulePart). p.over.rule.ends) c.self.view_is in
    IfOk-weaker c.begin.result _ _ (λ number begun.
    let b = begun kinds
    (named-right part steps ends kinds c.args.memory.now is_steps is_ends refl c.requires) in
    (b.0, b.1, subst (λ (ss : List Step). BeginsAs ss b.0) is_steps b.2)) c.begin.ensures.begun
