use Rattle.std.proofs.Common.{◌≡◌, ℕ, take}
use Rattle.std.specs.Prelude.{Contains}
use Rattle.ux_automaton.specs.declared.step.Landing.{Landing}
use Rattle.ux_automaton.specs.Kept.{Grows, store_of}
use Rattle.ux_automaton.specs.Landings.{IsFrontAt}
use Rattle.ux_automaton.proofs.targets.landings_of.Given as goal

-- a landing for each end so far
abbrev pub invariant-loop-end : goal.invariant-loop-end
invariant-loop-end l = record {
  grows : Grows (store_of l.fn.fronts) (store_of l.fronts);
  each : (landing : Landing) → Contains l.landings.items landing →
      Contains (take l.end-index l.end-items) landing.at
      × IsFrontAt (store_of l.fronts) l.targets landing.at landing.front;
  all : (end : ℕ) → Contains (take l.end-index l.end-items) end →
      (landing : Landing) × Contains l.landings.items landing × (landing.at ≡ end);
}
