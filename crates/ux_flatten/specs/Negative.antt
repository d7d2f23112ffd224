-- Which states a run from a negative unit leads to, by rules. Inner: the crate's own functions alone speak
-- of it.
use Rattle.std.specs.Prelude.{◌≡◌, ◌↔◌, ℕ, ◌+◌, ◌<◌, List, [], ◌∷◌, ◌++◌, get_or, length, map, Bool, true}
use Rattle.std.specs.List.{flat_map, range_with_len}
use Rattle.ux_digraph.specs.declared.closing.Rule.{Rule}
use Rattle.ux_digraph.specs.Rules.{is_marked_at}
use Rattle.ux_net.specs.declared.label.Label.{Label}
use Rattle.ux_net.specs.declared.label.Label.TheVariants.{Positive, Negative, ContextEnd}
use Rattle.ux_net.specs.declared.state.Edge.{Edge}
use Rattle.ux_net.specs.declared.state.State.{State}
use Rattle.ux_net.specs.declared.state_graph.StateGraph.{StateGraph}
use Rattle.ux_net.specs.StateGraphs.{state_grammar, told_states}
use Rattle.ux_net.specs.Words.{Grammar, Letter, Run}
use Rattle.ux_flatten.specs.Cuts.{IsNegativeUnit}

-- a run from the first place of a negative unit leads to the place: steps from there are negative
pub record IsNegativeAt (grammar : Grammar) (g place : ℕ) : Type 0 where
  pub first : ℕ
  pub unit : IsNegativeUnit grammar g first
  pub word : List Letter
  pub run : Run g (grammar.graph g) first place word

-- the place holds where the premise does
abbrev pub follows : (premise place : ℕ) → Rule
follows premise place = record { place = place; first = premise; second = premise }

-- Rules of an edge from state a, where there are so many states. A state holds where it is negative, and
-- its number behind all states where a context opens into it from a negative state.
abbrev pub rules_by : (count a target : ℕ) → Label → List Rule
rules_by count a target Positive = follows a (count + target) ∷ follows (count + target) target ∷ []
rules_by count a target Negative = follows a (count + target) ∷ follows (count + target) target ∷ []
rules_by count a target ContextEnd = []
rules_by count a target other = follows a target ∷ []

abbrev pub rules_of_edge : (count a : ℕ) → Edge → List Rule
rules_of_edge count a edge = rules_by count a edge.target edge.label

abbrev pub rules_of_state : (count a : ℕ) → State → List Rule
rules_of_state count a state = flat_map (rules_of_edge count a) state.edges

abbrev pub rules_from : (count a : ℕ) → List State → List Rule
rules_from count a [] = []
rules_from count a (state ∷ states) = rules_of_state count a state ++ rules_from count (a + 1) states

-- the states into which negative contexts open
abbrev pub opened_by : (target : ℕ) → Label → List ℕ
opened_by target Negative = target ∷ []
opened_by target other = []

abbrev pub opened_of_edge : Edge → List ℕ
opened_of_edge edge = opened_by edge.target edge.label

abbrev pub opened_of_state : State → List ℕ
opened_of_state state = flat_map opened_of_edge state.edges

-- Rules over contexts: a place stands for a state, and where a context opens into it from a negative state,
-- the states into which it is closed are negative.
abbrev pub rules_over : (count : ℕ) → (stands : List ℕ) → (place : ℕ) → (closers : List ℕ) → List Rule
rules_over count stands place closers =
    map (λ closer. follows (count + get_or stands place 0) (get_or stands closer 0)) closers

abbrev pub rules_at : (count : ℕ) → (stands : List ℕ) → (rows : List (List ℕ)) → (before place : ℕ) →
    List Rule
rules_at count stands rows before place =
    rules_over count stands place (get_or rows (before + place) [])

abbrev pub rules_of_places : (count : ℕ) → (stands : List ℕ) → (rows : List (List ℕ)) → (before : ℕ) →
    List Rule
rules_of_places count stands rows before =
    flat_map (rules_at count stands rows before) (range_with_len 0 (length stands))

-- all rules of a graph
abbrev pub rules_in : List State → (stands : List ℕ) → (rows : List (List ℕ)) → (before : ℕ) → List Rule
rules_in states stands rows before =
    rules_from (length states) 0 states ++ rules_of_places (length states) stands rows before

abbrev pub opened_in : List State → List ℕ
opened_in states = flat_map opened_of_state states

-- each place stands for a state that is there
abbrev pub StandInside : (stands : List ℕ) → List State → Type 0
StandInside stands states = (p : ℕ) → get_or stands p 0 < length states

-- for each graph a row that marks its negative states
pub record AreNegativeRows (graphs : List StateGraph) (rows : List (List Bool)) : Type 0 where
  pub count : length rows ≡ length graphs
  pub row : (k a : ℕ) → k < length graphs → a < length (told_states graphs (k + 1)) →
      (is_marked_at (get_or rows k []) a ≡ true) ↔ IsNegativeAt (state_grammar graphs) (k + 1) a
