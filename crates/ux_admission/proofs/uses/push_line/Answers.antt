use Rattle.std.proofs.Common.{sym, subst, OnOk}
use Rattle.ux_admission.specs.Gains.{Gains}
use Rattle.ux_admission.specs.Uses.{IsLineLink}
use Rattle.ux_admission.proofs.uses.push_line.Goals as goal

pub returns-in-Ordinary : goal.returns-in-Ordinary
returns-in-Ordinary c =
    subst (λ mark. OnOk c.push_step.result (Gains c.args.links.now.items
    c.push_step.new.links.items (IsLineLink c.args.offsets.now c.args.base c.args.step
    c.args.line.now c.args.closed.now mark))) (sym c.in-Ordinary.ensures) c.push_step.ensures

pub returns-in-Positive : goal.returns-in-Positive
returns-in-Positive c =
    subst (λ mark. OnOk c.push_context.result (Gains c.args.links.now.items
    c.push_context.new.links.items (IsLineLink c.args.offsets.now c.args.base c.args.step
    c.args.line.now c.args.closed.now mark))) (sym c.in-Positive.ensures) c.push_context.ensures

pub returns-in-Negative : goal.returns-in-Negative
returns-in-Negative c =
    subst (λ mark. OnOk c.push_context-in-Negative.result (Gains c.args.links.now.items
    c.push_context-in-Negative.new.links.items (IsLineLink c.args.offsets.now c.args.base
    c.args.step c.args.line.now c.args.closed.now mark))) (sym c.in-Negative.ensures)
    c.push_context-in-Negative.ensures
