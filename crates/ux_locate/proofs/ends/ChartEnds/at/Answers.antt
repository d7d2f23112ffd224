use Rattle.std.proofs.Common.{◌↔◌, ℕ, List, subst}
use Rattle.std.specs.Prelude.{Contains}
use Rattle.ux_outputs.specs.declared.event.Event.{Event}
use Rattle.ux_walk.specs.Settings.{Derives, Setting}
use Rattle.ux_locate.proofs.ends.ChartEnds.at.Goals as goal

pub returns-clause-exactly : goal.returns-clause-exactly
returns-clause-exactly c =
    subst (λ (s : Setting). (end : ℕ) → Contains c.ends.result.now end
    ↔ ((events : List Event) × Derives s c.args.start end events)) c.self.view_is
    c.ends.ensures.exactly
