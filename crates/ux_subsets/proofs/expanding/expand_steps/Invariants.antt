use Rattle.std.proofs.Common.{ℕ, List, ◌≡◌, ◌<◌, ◌-◌, ◌↔◌, length}
use Rattle.std.specs.Prelude.{Contains, IsTrue}
use Rattle.ux_subsets.specs.declared.automaton.Link.{Link}
use Rattle.ux_subsets.specs.Machines.{Grows}
use Rattle.ux_subsets.specs.Paths.{IsAscending}
use Rattle.ux_subsets.specs.Departures.{AreSteps, reading_at}
use Rattle.ux_subsets.specs.Building.{over_at, LeadsFrom, IsExpansion}
use Rattle.ux_subsets.proofs.RunsLemmas.{IsCut}
use Rattle.ux_subsets.proofs.expanding.expand_steps.Given as goal

-- the readings so far have their links
abbrev pub invariant-loop-begin : goal.invariant-loop-begin
invariant-loop-begin g l = record {
  grows : Grows (g.M.Machine.stands l.fn.machine) (g.M.Machine.stands l.machine) (g.M.Machine.satisfies l.fn.machine) (g.M.Machine.satisfies l.machine);
  expanded : (source : List Link) (states : List ℕ) → AreSteps source states l.steps → IsAscending l.last source → IsCut l.steps l.begin ×
      ((readings : List ℕ) × ((r : ℕ) → Contains readings r ↔ ((k : ℕ) × (k < l.begin) × (reading_at l.steps k ≡ r))) ×
      IsExpansion l.last source states l.from (g.M.Machine.stands l.fn.machine) (g.M.Machine.stands l.machine) (g.M.Machine.satisfies l.fn.machine) l.seen
      readings l.fn.waiting.items l.waiting.items l.fn.overs.items l.overs.items ×
      (IsTrue l.all → (r : ℕ) → Contains readings r → LeadsFrom l.last source states l.from r l.last → Contains l.overs.items (over_at l.from r)));
}

abbrev pub decreases-loop-begin : goal.decreases-loop-begin
decreases-loop-begin g l = length l.steps - l.begin
