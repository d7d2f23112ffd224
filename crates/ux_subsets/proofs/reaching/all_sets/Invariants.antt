use Rattle.std.proofs.Common.{ℕ, List, [], ◌≡◌, ◌+◌, ◌≤◌, ◌++◌, length}
use Rattle.ux_subsets.specs.declared.automaton.Link.{Link}
use Rattle.ux_subsets.specs.declared.sets.Set.{Set}
use Rattle.ux_subsets.specs.Machines.{Grows}
use Rattle.ux_subsets.specs.Paths.{IsAscending}
use Rattle.ux_subsets.specs.Agenda.{filed_in}
use Rattle.ux_subsets.specs.Departures.{AreByStart}
use Rattle.ux_subsets.specs.Building.{IsStage}
use Rattle.ux_subsets.proofs.reaching.all_sets.Given as goal

-- the sets so far have their links
abbrev pub invariant-loop-place : goal.invariant-loop-place
invariant-loop-place g l = record {
  within : l.place ≤ length l.fn.sets;
  due : l.agenda.due ≡ l.fn.agenda.due;
  grows : Grows (g.M.Machine.stands l.fn.machine) (g.M.Machine.stands l.machine) (g.M.Machine.satisfies l.fn.machine) (g.M.Machine.satisfies l.machine);
  staged : (source : List Link) (before : List Set) (links : List Link) (state : ℕ) →
      AreByStart source l.fn.table.steps.items l.fn.table.starts.items → IsAscending l.fn.last source → l.fn.base ≡ length before → l.fn.waiting.items ≡ [] → l.fn.agenda.due ≡ state + 1 →
      IsStage (g.M.Machine.stands l.fn.machine) (g.M.Machine.satisfies l.fn.machine) l.fn.last source (before ++ l.fn.sets) links l.fn.overs.items [] (filed_in l.fn.agenda) l.fn.base l.fn.base state l.fn.all →
      (l.waiting.items ≡ []) ×
      IsStage (g.M.Machine.stands l.machine) (g.M.Machine.satisfies l.machine) l.fn.last source (before ++ l.fn.sets) links l.overs.items [] (filed_in l.agenda) (l.fn.base + l.place) l.fn.base state l.now;
}
