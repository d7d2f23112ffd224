use Rattle.std.proofs.Common.{ℕ, List, subst}
use Rattle.std.specs.Prelude.{Contains}
use Rattle.ux_walk.specs.Configurations.{AddsFrom, IsPast}
use Rattle.ux_walk.specs.Courses.{at_state}
use Rattle.ux_walk.proofs.Results.{on_ok}
use Rattle.ux_walk.proofs.Adding.{adds_of, nothing_of}
use Rattle.ux_walk.proofs.Stepping.{behind_takes, behind_spans, behind_stays, behind_calls, behind_opens, behind_closed}
use Rattle.ux_walk.proofs.reached.Reached.go_on.Goals as goal

pub returns-in-Takes : goal.returns-in-Takes
returns-in-Takes g c = on_ok c.take.result _ _
    (λ adds alphabet tokens tables matched v before sound spells.
    adds_of v _ _ c.args.self.now c.take.new.self (adds v before sound spells) (λ w.
    behind_takes alphabet tokens tables (g.C.Contexts.applies c.args.contexts.now)
    c.args.edge.now.label (at_state c.args.config.here c.args.edge.now.target)
    c.args.config.at before c.args.matched matched w c.in-Takes.end c.in-Takes.is)) c.take.ensures

pub returns-in-Spans : goal.returns-in-Spans
returns-in-Spans g c = on_ok c.take_each.result _ _
    (λ adds alphabet tokens tables matched v before sound spells.
    adds_of v _ _ c.args.self.now c.take_each.new.self
    (subst (λ (l : List ℕ). AddsFrom c.args.self.now c.take_each.new.self c.args.config
    (λ before w. (end : ℕ) × Contains l end
    × IsPast c.args.config.at (at_state c.args.config.here c.args.edge.now.target) before
    end w))
    c.as_slice.ensures.value adds v before sound spells) (λ w.
    behind_spans alphabet tokens tables (g.C.Contexts.applies c.args.contexts.now)
    c.args.edge.now.label (at_state c.args.config.here c.args.edge.now.target)
    c.args.config.at before c.args.matched matched w c.in-Spans.ends c.in-Spans.is))
    c.take_each.ensures

pub returns-in-Stays : goal.returns-in-Stays
returns-in-Stays g c = on_ok c.pass.result _ _
    (λ adds alphabet tokens tables matched v before sound spells.
    adds_of v _ _ c.args.self.now c.pass.new.self (adds v before sound spells) (λ w.
    behind_stays alphabet tokens tables (g.C.Contexts.applies c.args.contexts.now)
    c.args.edge.now.label (at_state c.args.config.here c.args.edge.now.target)
    c.args.config.at before c.args.matched matched w c.in-Stays.is)) c.pass.ensures

pub returns-in-Calls : goal.returns-in-Calls
returns-in-Calls g c = on_ok c.enter.result _ _
    (λ adds alphabet tokens tables matched v before sound spells.
    adds_of v _ _ c.args.self.now c.enter.new.self (adds v before sound spells) (λ w.
    behind_calls alphabet tokens tables (g.C.Contexts.applies c.args.contexts.now)
    c.args.edge.now.label (at_state c.args.config.here c.args.edge.now.target)
    c.args.config.at before c.args.matched matched w c.in-Calls.graph c.in-Calls.is)) c.enter.ensures

pub returns-in-Opens : goal.returns-in-Opens
returns-in-Opens g c = on_ok c.close_each.result _ _
    (λ adds alphabet tokens tables matched v before sound spells.
    adds_of v _ _ c.args.self.now c.close_each.new.self (adds v before sound spells) (λ w.
    behind_opens alphabet tokens tables (g.C.Contexts.applies c.args.contexts.now)
    c.args.edge.now.label (at_state c.args.config.here c.args.edge.now.target)
    c.args.config.at before c.args.matched matched w c.in-Opens.is c.closers-closers.result.now
    c.closers-closers.ensures)) c.close_each.ensures

pub returns-in-Closed : goal.returns-in-Closed
returns-in-Closed g c = λ alphabet tokens tables matched v before sound spells.
    nothing_of v _ c.args.self.now sound (λ w.
    behind_closed alphabet tokens tables (g.C.Contexts.applies c.args.contexts.now)
    c.args.edge.now.label (at_state c.args.config.here c.args.edge.now.target)
    c.args.config.at before c.args.matched matched w c.in-Closed.is)
