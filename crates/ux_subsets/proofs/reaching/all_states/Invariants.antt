use Rattle.std.proofs.Common.{ℕ, List, [], ◌≡◌, ◌+◌, ◌≤◌, length}
use Rattle.ux_subsets.specs.declared.automaton.Link.{Link}
use Rattle.ux_subsets.specs.declared.sets.Set.{Set}
use Rattle.ux_subsets.specs.Machines.{Grows}
use Rattle.ux_subsets.specs.Paths.{IsAscending}
use Rattle.ux_subsets.specs.Agenda.{filed_in}
use Rattle.ux_subsets.specs.Departures.{AreByStart}
use Rattle.ux_subsets.specs.Building.{IsStage}
use Rattle.ux_subsets.proofs.reaching.all_states.Given as goal

-- the states so far are done
abbrev pub invariant-loop-state : goal.invariant-loop-state
invariant-loop-state g l = record {
  within : l.state ≤ l.fn.last;
  due : l.agenda.due ≡ l.state;
  grows : Grows (g.M.Machine.stands l.fn.machine) (g.M.Machine.stands l.machine) (g.M.Machine.satisfies l.fn.machine) (g.M.Machine.satisfies l.machine);
  staged : (source : List Link) (sets : List Set) (border : ℕ) →
      AreByStart source l.fn.table.steps.items l.fn.table.starts.items → IsAscending l.fn.last source → l.fn.begun.count ≡ length sets → l.fn.waiting.items ≡ [] →
      IsStage (g.M.Machine.stands l.fn.machine) (g.M.Machine.satisfies l.fn.machine) l.fn.last source sets l.fn.links.items l.fn.overs.items [] (filed_in l.fn.agenda) (length sets) border 0 l.fn.begun.all →
      (l.waiting.items ≡ []) × ((found : List Set) × (now : ℕ) × (done : ℕ) × (l.state ≡ done + 1) × (l.so_far.count ≡ length found) ×
      IsStage (g.M.Machine.stands l.machine) (g.M.Machine.satisfies l.machine) l.fn.last source found l.links.items l.overs.items [] (filed_in l.agenda) (length found) now done l.so_far.all);
}
