use Rattle.std.proofs.Common.{List, subst}
use Rattle.ux_digraph.specs.declared.closing.Rule.{Rule}
use Rattle.ux_admission.specs.BadContexts.{IsNextRule}
use Rattle.ux_admission.specs.Gains.{Gains}
use Rattle.ux_admission.proofs.GainsLemmas.{gains_all}
use Rattle.ux_admission.proofs.context_close.rules_of.Goals as goal

pub returns : goal.returns
returns c =
    gains_all c.push_rules.new.rules.items (IsNextRule c.args.leading.now)
    (subst (λ (rules : List Rule). Gains rules c.push_rules.new.rules.items
    (IsNextRule c.args.leading.now)) c.new-rules.ensures.items c.in_ok-push_rules.ensures)
