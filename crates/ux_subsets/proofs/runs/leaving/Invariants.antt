use Rattle.std.proofs.Common.{List, ◌∷◌, ◌↔◌, take}
use Rattle.std.specs.Prelude.{Contains}
use Rattle.ux_subsets.specs.declared.automaton.Link.{Link}
use Rattle.ux_subsets.specs.declared.departures.Step.{Step}
use Rattle.ux_subsets.specs.Departures.{AreByStart, LeavesOne}
use Rattle.ux_subsets.proofs.runs.leaving.Given as goal

-- the steps of the states so far
abbrev pub invariant-loop-state : goal.invariant-loop-state
invariant-loop-state l = (links : List Link) → AreByStart links l.table.steps.items l.table.starts.items → (e : Step) →
    Contains l.found.items e ↔ LeavesOne links (l.set.first ∷ take l.state-index l.state-items) e
