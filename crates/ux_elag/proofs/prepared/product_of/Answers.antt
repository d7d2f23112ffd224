use Rattle.std.proofs.Common.{List, ◌≤◌, ◌∙◌, length, subst, sym}
use Rattle.std.specs.Prelude.{All, IfOk}
use Rattle.ux_monitor.specs.Parts.{IsProductOf, RulePart}
use Rattle.ux_elag.proofs.prepared.product_of.Goals as goal

pub of-requires : goal.of-requires
of-requires c =
    subst (λ (ps : List RulePart). All (λ (part : RulePart). c.args.count ≤ length part.of) ps)
    (sym (c.as_slice.ensures.value ∙ c.in_ok-parts.ensures)) c.requires

pub returns : goal.returns
returns c =
    subst (λ (ps : List RulePart). IfOk c.of.result (IsProductOf ps))
    (c.as_slice.ensures.value ∙ c.in_ok-parts.ensures) c.of.ensures
