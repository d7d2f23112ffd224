-- What the parts of compiling give: places, refusals and a net. Public is `IsConstructed`; of the
-- rest the crate's own functions alone speak.
use Rattle.std.specs.Prelude.{◌≡◌, ℕ, ◌⊎◌, List, [], Bool, Some, length, map}
use Rattle.ux_alphabet.specs.Letters.{Letters}
use Rattle.ux_boxes.specs.declared.error.NetError.{NetError}
use Rattle.ux_net.specs.declared.net_graph.NetGraph.{NetGraph}
use Rattle.ux_boxes.specs.declared.place.Place.{Place}
use Rattle.ux_admission.specs.Admission.{ArePlaceRanks}
use Rattle.ux_boxes.specs.Boxes.{Drawn, boxes_of, names_of}
use Rattle.ux_admission.specs.Closers.{AreClosers}
use Rattle.ux_compile.specs.Construct.{states_of}
use Rattle.ux_admission.specs.ContextClose.{AreClosed}
use Rattle.ux_net.specs.Nets.{graph_at}
use Rattle.ux_boxes.specs.Places.{ArePlaces, place_grammar}
use Rattle.ux_compile.specs.Ranks.{AreBuilt}
use Rattle.ux_boxes.specs.Refusing.{AreWhole, AreMasked, is_named}
use Rattle.ux_boxes.specs.Splitting.{AreSplit}
use Rattle.ux_admission.specs.Refusals.{RefusesContexts, RefusesPlaces, RefusesRecursion}
use Rattle.ux_admission.specs.SoundGrammar.{HasSoundContexts}
use Rattle.ux_admission.specs.Uses.{AreLevels}

-- graphs that pass the tests which come before that of loops, and their places
pub record AreTested (alphabet : Letters) (graphs : List Drawn) (places : List (List Place)) :
    Type 0 where
  pub whole : AreWhole graphs
  pub masked : AreMasked graphs
  pub split : AreSplit alphabet graphs places

-- graphs of these names are refused for what their places show, by the first of the tests
abbrev pub RefusesNet : (names : List (List ℕ)) → List (List Place) → NetError → Type 0
RefusesNet names places error = RefusesContexts names places error
    ⊎ ((AreClosed (place_grammar places) × RefusesRecursion names places error)
    ⊎ (HasSoundContexts (place_grammar places) × RefusesPlaces names places error))

-- a compiled graph has the name of the drawn graph of this number, and exactly the states of its
-- places
pub record IsConstructedOf (alphabet : Letters) (graphs : List Drawn) (g : ℕ)
    (graph : NetGraph) : Type 0 where
  pub name : is_named graphs g graph.name
  pub places : List Place
  pub of_boxes : ArePlaces alphabet (names_of graphs) (boxes_of graphs g) places
  pub states : graph.states ≡ states_of places
  pub aside : graph.unmet ≡ []

-- a net has one compiled graph for each drawn one, in order
pub record IsConstructed (alphabet : Letters) (graphs : List Drawn) (net : List NetGraph) :
    Type 0 where
  pub count : length net ≡ length graphs
  pub each : (g : ℕ) (graph : NetGraph) → graph_at net g ≡ Some graph →
      IsConstructedOf alphabet graphs g graph

-- A net is built of the places, by ranks of theirs and by where contexts are closed, and its graphs
-- have these names. No context is refused, and the places have levels.
pub record IsBuiltOf (names : List (List ℕ)) (places : List (List Place))
    (net : List NetGraph) : Type 0 where
  pub named : map (λ (graph : NetGraph). graph.name) net ≡ names
  pub ranks : List (List ℕ)
  pub free : List (List Bool)
  pub ranked : ArePlaceRanks places ranks free
  pub rows : List (List ℕ)
  pub closing : AreClosers places rows
  pub levels : List ℕ
  pub leveled : AreLevels places levels
  pub closed : AreClosed (place_grammar places)
  pub built : AreBuilt places rows ranks free net
