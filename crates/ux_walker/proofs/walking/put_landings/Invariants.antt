use Rattle.ux_automaton.specs.Fronts.{Keeps}
use Rattle.ux_walker.specs.Walking.{AreReady}
use Rattle.ux_walker.proofs.WalkLemmas.{LeadSoFar}
use Rattle.ux_walker.proofs.walking.put_landings.Given as goal

-- the landings so far were put
abbrev pub invariant-loop-landing : goal.invariant-loop-landing
invariant-loop-landing l = record {
  keeps : Keeps l.fn.automaton l.automaton;
  ready : AreReady l.automaton l.low l.agenda;
  leads : LeadSoFar l.fn.automaton l.fn.agenda l.landings l.automaton l.agenda l.landing-index;
}
