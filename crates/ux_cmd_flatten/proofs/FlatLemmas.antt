-- What stops a grammar from being flattened is told of the net that was read.
use Rattle.std.proofs.Common.{ℕ, List, refl}
use Rattle.ux_alphabet.specs.Letters.{Letters}
use Rattle.ux_flatten.specs.Flattening.{IsFlattened, told}
use Rattle.ux_grammars.specs.Reading.{HasStatesOf}
use Rattle.ux_grammars.specs.Sources.{Source}
use Rattle.ux_net.specs.declared.net_graph.NetGraph.{NetGraph}
use Rattle.ux_plan.specs.declared.stop.Stop.{Stop}
use Rattle.ux_plan.specs.declared.stop.Stop.TheVariants.{Absent, ReadFault, TooLarge, Refused, NoMemory}
use Rattle.ux_plan.specs.Plans.{StopsTest, refusing}
use Rattle.ux_reasons.specs.declared.reason.Reason.{Reason}
use Rattle.ux_cmd_flatten.specs.Refusing.{CanFlatten, HasStates, RefusesGrammar, RefusesNet}

module _ (letters : Letters) (source : Source) (net : List NetGraph)
    (states : HasStatesOf letters source net) where
  -- the states of the grammar are those of its net
  pub states_told : HasStates letters source (told net)
  states_told = record { net = net; states = states; told = refl }

  pub can_flatten : (depth : ℕ) → IsFlattened (told net) depth → CanFlatten letters source depth
  can_flatten depth flattened =
      record { graphs = told net; states = states_told; flattened = flattened }

  pub flat_stops : (word : List ℕ) (depth : ℕ) (stop : Stop Reason) →
      StopsTest (refusing (RefusesNet word (told net) depth)) stop →
      StopsTest (refusing (RefusesGrammar word letters source depth)) stop
  flat_stops word depth (Absent name) stops = stops
  flat_stops word depth (ReadFault name) stops = stops
  flat_stops word depth (TooLarge name) stops = stops
  flat_stops word depth (Refused name reason) stops =
      record { graphs = told net; states = states_told; refuses = stops }
  flat_stops word depth NoMemory stops = tt
