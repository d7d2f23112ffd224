use Rattle.std.proofs.Common.{ℕ, List, [], ◌≡◌, ◌+◌, ◌<◌, length, vec_len}
use Rattle.std.specs.Prelude.{Contains}
use Rattle.ux_subsets.specs.declared.automaton.Link.{Link}
use Rattle.ux_subsets.specs.declared.sets.Set.{Set}
use Rattle.ux_subsets.specs.declared.sets.Waiting.{Waiting}
use Rattle.ux_subsets.specs.Paths.{IsAscending}
use Rattle.ux_subsets.specs.Agenda.{filed_in}
use Rattle.ux_subsets.specs.Departures.{AreByStart}
use Rattle.ux_subsets.specs.Building.{states_of, states_at, seen_at, IsStage}
use Rattle.ux_subsets.proofs.reaching.one_set.Given as goal

-- the set has its links, and what waits is still filed
abbrev pub invariant-loop-one : goal.invariant-loop-one
invariant-loop-one g l = record {
  due : l.agenda.due ≡ l.fn.agenda.due;
  staged : (source : List Link) (sets : List Set) (links : List Link) (border state : ℕ) →
      AreByStart source l.fn.table.steps.items l.fn.table.starts.items → IsAscending l.fn.last source →
      states_at sets l.fn.number ≡ states_of l.fn.set → seen_at sets l.fn.number ≡ l.fn.set.seen → l.fn.number < length sets → l.fn.waiting.items ≡ [] → l.fn.agenda.due ≡ state + 1 →
      IsStage (g.M.Machine.stands l.fn.machine) (g.M.Machine.satisfies l.fn.machine) l.fn.last source sets links l.fn.overs.items [] (filed_in l.fn.agenda) l.fn.number border state l.fn.all →
      IsStage (g.M.Machine.stands l.machine) (g.M.Machine.satisfies l.machine) l.fn.last source sets links l.overs.items l.waiting.items (filed_in l.agenda) (l.fn.number + 1) border state l.now
      × ((w : Waiting) → Contains l.waiting.items w → state < w.set.first);
}

abbrev pub decreases-loop-one : goal.decreases-loop-one
decreases-loop-one g l = vec_len l.waiting
