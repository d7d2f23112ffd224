-- States, the places that stand for them, and what was found of these: all that a net is built of.
use Rattle.std.proofs.Common.{◌≡◌, ℕ, List, Bool, subst}
use Rattle.ux_net.specs.declared.net_graph.NetGraph.{NetGraph}
use Rattle.ux_net.specs.declared.state_graph.StateGraph.{StateGraph}
use Rattle.ux_net.specs.StateGraphs.{AreInsideStates, state_grammar}
use Rattle.ux_boxes.specs.declared.place.Place.{Place}
use Rattle.ux_admission.specs.Admission.{ArePlaceRanks}
use Rattle.ux_admission.specs.Closers.{AreClosers}
use Rattle.ux_admission.specs.ContextClose.{AreClosed}
use Rattle.ux_admission.specs.SoundGrammar.{IsSoundGrammar}
use Rattle.ux_admission.specs.Uses.{AreLevels}
use Rattle.ux_state_places.specs.Standing.{Stand}
use Rattle.ux_states.specs.Building.{AreBuilt}

pub record Found : Type 0 where
  pub graphs : List StateGraph
  pub places : List (List Place)
  pub stands : List (List ℕ)
  pub hubs : List (List ℕ)
  pub rows : List (List ℕ)
  pub ranks : List (List ℕ)
  pub free : List (List Bool)
  pub levels : List ℕ
  pub inside : AreInsideStates graphs
  pub stand : Stand graphs places stands hubs
  pub closing : AreClosers places rows
  pub ranked : ArePlaceRanks places ranks free
  pub leveled : AreLevels places levels
  pub closed : AreClosed (state_grammar graphs)

-- a net is built of it
abbrev pub IsBuilt : Found → List NetGraph → Type 0
IsBuilt it net = AreBuilt it.graphs it.places it.stands it.hubs it.rows it.ranks it.free net

-- it is put together of what is known of the same graphs
abbrev pub found_of : (graphs seen known : List StateGraph) (places : List (List Place))
    (stands hubs rows ranks : List (List ℕ)) (free : List (List Bool)) (levels : List ℕ) →
    seen ≡ graphs → known ≡ graphs → AreInsideStates graphs → Stand seen places stands hubs →
    AreClosers places rows → ArePlaceRanks places ranks free → AreLevels places levels →
    IsSoundGrammar (state_grammar known) → Found
found_of graphs seen known places stands hubs rows ranks free levels same too inside stand closing
    ranked leveled sound = record {
      graphs = graphs;
      places = places;
      stands = stands;
      hubs = hubs;
      rows = rows;
      ranks = ranks;
      free = free;
      levels = levels;
      inside = inside;
      stand = subst (λ (l : List StateGraph). Stand l places stands hubs) same stand;
      closing = closing;
      ranked = ranked;
      leveled = leveled;
      closed = subst (λ (l : List StateGraph). AreClosed (state_grammar l)) too sound.contexts.closed;
    }
