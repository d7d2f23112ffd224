use Rattle.std.proofs.Common.{ℕ, ◌≤◌, ◌≢◌}
use Rattle.std.specs.List.Sorted.{IsNonDecreasingBy}
use Rattle.ux_subsets.specs.declared.departures.Step.{Step}
use Rattle.ux_subsets.specs.Departures.{LeadsTo}
use Rattle.ux_subsets.proofs.RunsLemmas.{AreMet}
use Rattle.ux_subsets.proofs.expanding.others_of.Given as goal

abbrev pub invariant-loop-step : goal.invariant-loop-step
invariant-loop-step l = IsNonDecreasingBy (λ (e : Step). e.to) l.run → l.first ≢ l.last → LeadsTo l.run l.first →
    ((t : ℕ) → LeadsTo l.run t → l.first ≤ t) → AreMet l.run l.last l.first l.others.items l.latest l.step-index
