use Rattle.ux_walk.proofs.Results.{on_ok}
use Rattle.ux_walk.proofs.Adding.{adds_behind}
use Rattle.ux_walk.proofs.Keeping.{keeps, telling_kept, visit_kept}
use Rattle.ux_walk.proofs.reached.Reached.call.Goals as goal

pub returns : goal.returns
returns c = on_ok c.wait.result _ _ (λ waits v before sound spells.
    let old = c.args.self.now in
    let mid = c.visit.new.self in
    let numbered = c.in_ok-number.ensures in
    let first = numbered.adds sound in
    let kept = keeps first in
    adds_behind _ old mid c.wait.new.self first (waits v before first.sound numbered.visit
    (visit_kept old mid kept c.args.config.visit v spells.visit)
    (telling_kept old mid kept c.args.config.events before spells.events))) c.wait.ensures
