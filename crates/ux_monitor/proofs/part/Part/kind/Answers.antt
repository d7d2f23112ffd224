use Rattle.std.proofs.Common.{◌∙◌, ap, get_or}
use Rattle.ux_monitor.specs.Parts.{RulePart}
use Rattle.ux_monitor.proofs.part.Part.kind.Goals as goal

pub returns : goal.returns
returns c =
    c.number_at.ensures ∙ ap (λ (p : RulePart). get_or p.of c.args.reading 0) c.self.view_is
