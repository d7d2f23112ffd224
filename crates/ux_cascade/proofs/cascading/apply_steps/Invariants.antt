use Rattle.ux_cascade.specs.Cascades.{AreOfSomeText, AreSteps}
use Rattle.ux_cascade.proofs.cascading.apply_steps.Given as goal

-- the steps before this one are applied
abbrev pub invariant-loop-step : goal.invariant-loop-step
invariant-loop-step g l = record {
  steps : AreSteps l.alphabet (g.F.Finder.finds l.finder) l.times l.fn.text l.step l.rounds.items
      l.text;
  cut : AreOfSomeText l.alphabet l.text;
}
