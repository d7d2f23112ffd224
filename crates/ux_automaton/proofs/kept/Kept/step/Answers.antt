use Rattle.std.proofs.Common.{subst, sym}
use Rattle.ux_automaton.specs.declared.fronts.Fronts.{Fronts}
use Rattle.ux_automaton.specs.FrontIndexes.{AreFrontsIndexed}
use Rattle.ux_automaton.specs.Kept.{Grows, known_in, store_of}
use Rattle.ux_walk.specs.Settings.{masked_setting}
use Rattle.ux_automaton.specs.Steps.{IsStep}
use Rattle.ux_automaton.proofs.kept.Kept.step.Goals as goal

pub returns-clause-fronts : goal.returns-clause-fronts
returns-clause-fronts c =
    subst (λ (f : Fronts). AreFrontsIndexed c.args.masked.now (store_of f) c.go_on.new.front_indexes)
    (sym c.in_ok-note.ensures.same) c.in_ok-step.ensures.fronts

pub returns-clause-grows : goal.returns-clause-grows
returns-clause-grows c =
    subst (λ (f : Fronts). Grows (store_of c.args.self.now.fronts) (store_of f))
    (sym c.in_ok-note.ensures.same) c.in_ok-step.ensures.grows

pub returns-clause-step : goal.returns-clause-step
returns-clause-step c =
    subst (λ (f : Fronts). IsStep (known_in c.args.masked.now c.args.self.now)
    (record { setting = masked_setting c.args.masked.now; store = store_of f }) c.args.front c.args.at
    c.in_ok-step.step) (sym c.in_ok-note.ensures.same) c.in_ok-step.ensures.step
