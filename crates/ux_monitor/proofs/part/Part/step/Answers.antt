use Rattle.std.proofs.Common.{◌≡◌, ◌∙◌, List, ℕ, [], ap, refl, sym}
use Rattle.std.proofs.lemmas.Result.{IfOk-weaker}
use Rattle.ux_monitor.specs.Monitors.{kind_at, tests_of}
use Rattle.ux_monitor.specs.Parts.{RulePart, table_of}
use Rattle.ux_monitor.specs.Remembering.{kinds_in}
use Rattle.ux_monitor.proofs.PartsLemmas.{leads-named, named-right, right-named}
use Rattle.ux_monitor.proofs.part.Part.step.Goals as goal

pub returns-in_default-clause-right : goal.returns-in_default-clause-right
returns-in_default-clause-right c =
    let part = c.args.self.now in
    let steps = c.steps-steps.result.now in
    let ends = c.ends-ends.result.now in
    let kinds = part.over.kinds in
    let is_steps : steps ≡ part.over.rule.steps =
    c.steps-steps.ensures ∙ ap (λ (p : RulePart). p.over.rule.steps) c.self.view_is in
    let is_ends : ends ≡ part.over.rule.ends =
    c.ends-ends.ensures ∙ ap (λ (p : RulePart). p.over.rule.ends) c.self.view_is in
    right-named part steps ends kinds c.step_by.new.self is_steps is_ends refl
    (c.step_by.ensures.right kinds
    (named-right part steps ends kinds c.args.memory.now is_steps is_ends refl c.requires))

pub returns-in_default-clause-stepped : goal.returns-in_default-clause-stepped
returns-in_default-clause-stepped c =
    let part = c.args.self.now in
    let steps = c.steps-steps.result.now in
    let ends = c.ends-ends.result.now in
    let is_steps : steps ≡ part.over.rule.steps =
    c.steps-steps.ensures ∙ ap (λ (p : RulePart). p.over.rule.steps) c.self.view_is in
    let is_ends : ends ≡ part.over.rule.ends =
    c.ends-ends.ensures ∙ ap (λ (p : RulePart). p.over.rule.ends) c.self.view_is in
    let is_kinds : kinds_in c.kinds-kinds.result.now ≡ part.over.kinds =
    c.kinds-kinds.ensures ∙ ap (λ (p : RulePart). p.over.kinds) c.self.view_is in
    let is_of : c.self.inside.of.now ≡ part.of = ap (λ (p : RulePart). p.of) c.self.view_is in
    let row : kind_at (tests_of (kinds_in c.kinds-kinds.result.now) c.self.inside.of.now)
    c.args.reading ≡ kind_at (table_of part) c.args.reading =
    ap (λ (ks : List (List ℕ)). kind_at (tests_of ks c.self.inside.of.now) c.args.reading) is_kinds
    ∙ ap (λ (o : List ℕ). kind_at (tests_of part.over.kinds o) c.args.reading) is_of in
    IfOk-weaker c.step_by.result _ _ (λ number stepped before at.
    let s = stepped before at in (
      s.0,
      s.1,
      leads-named part steps ends [] (kind_at (table_of part) c.args.reading) before s.0
          is_steps is_ends (sym c.in_default.ensures.none ∙ row) s.2,
    )) c.step_by.ensures.stepped

pub step-requires-clause-right : goal.step-requires-clause-right
step-requires-clause-right c =
    let part = c.args.self.now in
    named-right part c.steps-steps.result.now c.ends-ends.result.now
    (kinds_in c.kinds-kinds.result.now) c.args.memory.now
    (c.steps-steps.ensures ∙ ap (λ (p : RulePart). p.over.rule.steps) c.self.view_is)
    (c.ends-ends.ensures ∙ ap (λ (p : RulePart). p.over.rule.ends) c.self.view_is)
    (c.kinds-kinds.ensures ∙ ap (λ (p : RulePart). p.over.kinds) c.self.view_is) c.requires

pub returns-clause-right : goal.returns-clause-right
returns-clause-right c =
    let part = c.args.self.now in
    right-named part c.steps-steps.result.now c.ends-ends.result.now
    (kinds_in c.kinds-kinds.result.now) c.step.new.self
    (c.steps-steps.ensures ∙ ap (λ (p : RulePart). p.over.rule.steps) c.self.view_is)
    (c.ends-ends.ensures ∙ ap (λ (p : RulePart). p.over.rule.ends) c.self.view_is)
    (c.kinds-kinds.ensures ∙ ap (λ (p : RulePart). p.over.kinds) c.self.view_is)
    c.step.ensures.right

pub returns-clause-stepped : goal.returns-clause-stepped
returns-clause-stepped c =
    let part = c.args.self.now in
    let steps = c.steps-steps.result.now in
    let ends = c.ends-ends.result.now in
    let kinds = kinds_in c.kinds-kinds.result.now in
    let is_steps : steps ≡ part.over.rule.steps =
    c.steps-steps.ensures ∙ ap (λ (p : RulePart). p.over.rule.steps) c.self.view_is in
    let is_ends : ends ≡ part.over.rule.ends =
    c.ends-ends.ensures ∙ ap (λ (p : RulePart). p.over.rule.ends) c.self.view_is in
    let is_kinds : kinds ≡ part.over.kinds =
    c.kinds-kinds.ensures ∙ ap (λ (p : RulePart). p.over.kinds) c.self.view_is in
    let is_of : c.self.inside.of.now ≡ part.of = ap (λ (p : RulePart). p.of) c.self.view_is in
    let row : kind_at (tests_of kinds c.self.inside.of.now) c.args.reading
    ≡ kind_at (table_of part) c.args.reading =
    ap (λ (ks : List (List ℕ)). kind_at (tests_of ks c.self.inside.of.now) c.args.reading) is_kinds
    ∙ ap (λ (o : List ℕ). kind_at (tests_of part.over.kinds o) c.args.reading) is_of in
    IfOk-weaker c.step.result _ _ (λ number stepped before at.
    let s = stepped before at in (
      s.0,
      s.1,
      leads-named part steps ends (kind_at kinds c.in-Some.kind)
          (kind_at (table_of part) c.args.reading) before s.0 is_steps is_ends
          (sym c.in-Some.ensures.some ∙ row) s.2,
    )) c.step.ensures.stepped
