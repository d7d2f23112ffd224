-- Graphs of states that a text says can be made a net of: there are not too many, each has a state,
-- and edges stay inside.
use Rattle.std.proofs.Common.{arith, refl, false, ◌≡◌, inl, inr, ℕ, zero, suc, ◌+◌, ◌<◌, List, [], ◌∷◌, Option, Some, None, sym, subst, length, get_or}
use Rattle.std.specs.Prelude.{Contains, slice_get}
use Rattle.std.specs.List.{AllZip}
use Rattle.std.proofs.lemmas.Option.{get_or_from_slice_get, slice_get_within}
use Rattle.std.proofs.lemmas.Slice.Zip.{AllZip-long}
use Rattle.ux_grf.specs.declared.item.Item.{Item}
use Rattle.ux_grf.specs.declared.item.Item.TheVariants as item
use Rattle.ux_grf.specs.declared.item.Piece.{Piece}
use Rattle.ux_net.specs.declared.label.Label.{Label}
use Rattle.ux_net.specs.declared.state.Edge.{Edge}
use Rattle.ux_net.specs.declared.state.State.{State}
use Rattle.ux_net.specs.declared.state_graph.StateGraph.{StateGraph}
use Rattle.ux_net.specs.Nets.{IsCalled, IsEdgeInside}
use Rattle.ux_net.specs.StateGraphs.{told_at, told_in, told_states}
use Rattle.ux_fst2_file.specs.Files.{BeginGraphs, BeginStates, end_line, state_line, no_graph, graph_then}
use Rattle.ux_fst2_file.specs.Labels.{FitsEdge, FitsLabel, limits_of}
use Rattle.ux_fst2_file.specs.declared.file.Fst2Label.{Fst2Label}
use Rattle.ux_fst2_file.specs.declared.file.Fst2Label.TheVariants.{Tag, Call}
use Rattle.ux_fst2_file.specs.declared.file.Fst2Edge.{Fst2Edge}
use Rattle.ux_fst2_file.specs.declared.file.Fst2State.{Fst2State}
use Rattle.ux_fst2_file.specs.declared.file.Fst2Graph.{Fst2Graph}
use Rattle.ux_fst2_file.specs.declared.labels.Limits.{Limits}
use Rattle.ux_fst2.specs.Files.{IsEdgeBy, IsGraphBy, IsStateBy}
use Rattle.ux_fst2.specs.Reading.{AreStateGraphs, IsSaidBy, SaysGraphs}
use Rattle.ux_fst2.specs.Tags.{IsExactOf, IsItemOf, IsTag}

-- items of two lists that stand at one place
zip_get : {A B : Type 0} (R : A → B → Type 0) (xs : List A) (ys : List B) (k : ℕ) (d : A) (e : B) →
    AllZip R xs ys → k < length ys → R (get_or xs k d) (get_or ys k e)
zip_get R [] [] k d e z lt = absurd (omega (arith, lt))
zip_get R [] (y ∷ ys) k d e z lt = absurd z
zip_get R (x ∷ xs) [] k d e z lt = absurd z
zip_get R (x ∷ xs) (y ∷ ys) zero d e z lt = z.0
zip_get R (x ∷ xs) (y ∷ ys) (suc k) d e z lt = zip_get R xs ys k d e z.1 (omega (arith, lt))

-- a graph has a state, and 32 bits number its states
states_some : (before : ℕ) (lines : List (List ℕ)) (states : List Fst2State)
    (rest : List (List ℕ)) → BeginStates before lines states rest → 0 < before + length states
states_some before lines states rest (end_line _ _ _ ends) =
    let some = ends.1 in
    omega (arith, some)
states_some before lines states rest (state_line _ _ _ _ state later adds begin) =
    let more = states_some (before + 1) _ later rest begin in
    omega (arith, more)

states_few : (before : ℕ) (lines : List (List ℕ)) (states : List Fst2State)
    (rest : List (List ℕ)) → before < 4294967296 → BeginStates before lines states rest →
    before + length states < 4294967296
states_few before lines states rest few (end_line _ _ _ ends) = omega (arith, few)
states_few before lines states rest few (state_line _ _ _ _ state later adds begin) =
    let more = states_few (before + 1) _ later rest adds.1 begin in
    omega (arith, more)

-- so it is with each graph of a file
graphs_numbered : (names lines : List (List ℕ)) (graphs : List Fst2Graph) (rest : List (List ℕ))
    (k : ℕ) (d : Fst2Graph) → BeginGraphs names lines graphs rest → k < length graphs →
    (0 < length (get_or graphs k d).states) × (length (get_or graphs k d).states < 4294967296)
graphs_numbered names lines graphs rest k d (no_graph _ _) lt = absurd (omega (arith, lt))
graphs_numbered names lines graphs rest zero d (graph_then _ _ _ _ _ graph later begins states more)
    lt =
    let some = states_some 0 _ graph.states _ states in
    let few = states_few 0 _ graph.states _ (omega arith) states in
    (omega (arith, some), omega (arith, few))
graphs_numbered names lines graphs rest (suc k) d
    (graph_then _ _ _ _ _ graph later begins states more) lt =
    graphs_numbered _ _ later rest k d more (omega (arith, lt))

-- an item calls no graph by number
item_called : (count : ℕ) (it : Item) (label : Label) → IsItemOf it label → IsCalled count label
item_called count (item.Literal text) label is = subst (IsCalled count) (sym is) tt
item_called count (item.Quoted text) label is = subst (IsCalled count) (sym is.1) tt
item_called count (item.Mask text) label is = subst (IsCalled count) (sym is.2) tt
item_called count (item.Brace text) label is = subst (IsCalled count) (sym is) tt
item_called count item.NoSpace label is = subst (IsCalled count) (sym is) tt
item_called count item.Empty label is = subst (IsCalled count) (sym is) tt
item_called count (item.Call name) label is = absurd is
item_called count (item.Begin name) label is = subst (IsCalled count) (sym is) tt
item_called count (item.End name) label is = subst (IsCalled count) (sym is) tt
item_called count item.Positive label is = subst (IsCalled count) (sym is) tt
item_called count item.Negative label is = subst (IsCalled count) (sym is) tt
item_called count item.ContextEnd label is = subst (IsCalled count) (sym is) tt
item_called count item.Cut label is = subst (IsCalled count) (sym is) tt

exact_called : (count : ℕ) (it : Item) (label : Label) → IsExactOf it label → IsCalled count label
exact_called count (item.Literal text) label is = subst (IsCalled count) (sym is) tt
exact_called count (item.Quoted text) label is = absurd is
exact_called count (item.Mask text) label is = absurd is
exact_called count (item.Brace text) label is = absurd is
exact_called count item.NoSpace label is = absurd is
exact_called count item.Empty label is = absurd is
exact_called count (item.Call name) label is = absurd is
exact_called count (item.Begin name) label is = absurd is
exact_called count (item.End name) label is = absurd is
exact_called count item.Positive label is = absurd is
exact_called count item.Negative label is = absurd is
exact_called count item.ContextEnd label is = absurd is
exact_called count item.Cut label is = absurd is

-- nor does a tag
tag_called : (count : ℕ) (text : List ℕ) (label : Label) (output : List Piece) →
    IsTag text label output → IsCalled count label
tag_called count [] label output is = absurd is
tag_called count (b ∷ content) label output (inl is) =
    item_called count is.1.item label is.1.label_is
tag_called count (b ∷ content) label output (inr is) =
    exact_called count is.1.item label is.1.label_is

-- a number that fits calls a graph that is there
label_called : (tags : List (List ℕ)) (limits : Limits) (x : Fst2Label) (label : Label)
    (output : List Piece) → FitsLabel limits x → IsSaidBy tags x label output →
    IsCalled limits.graphs label
label_called tags limits (Tag n) label output fits is =
    tag_called limits.graphs is.0 label output is.2
label_called tags limits (Call g) label output fits is =
    subst (IsCalled limits.graphs) (sym is.0) (omega (arith, fits.0), fits.1)

no_edge : Fst2Edge
no_edge = record { label = Tag 0; target = 0 }

no_state : Fst2State
no_state = record { is_final = false; edges = [] }

no_told_graph : Fst2Graph
no_told_graph = record { name = []; states = [] }

module _ (text : List ℕ) (graphs : List StateGraph) (says : SaysGraphs text graphs) where
  same_count : length graphs ≡ length says.file.graphs
  same_count =
      AllZip-long (IsGraphBy (IsSaidBy says.file.tags)) says.file.graphs graphs says.are

  -- the graph of the file at the place of a graph
  abbrev told_there : ℕ → Fst2Graph
  told_there k = get_or says.file.graphs k no_told_graph

  graph_there : (k : ℕ) (graph : StateGraph) → slice_get graphs k ≡ Some graph →
      IsGraphBy (IsSaidBy says.file.tags) (told_there k) graph
  graph_there k graph at =
      subst (IsGraphBy (IsSaidBy says.file.tags) (told_there k))
      (get_or_from_slice_get graphs k graph graph at)
      (zip_get (IsGraphBy (IsSaidBy says.file.tags)) says.file.graphs graphs k no_told_graph graph
      says.are (slice_get_within graphs k graph at))

  numbered : (k : ℕ) (graph : StateGraph) → slice_get graphs k ≡ Some graph →
      (0 < length graph.states) × (length graph.states < 4294967296)
  numbered k graph at =
      let inside = slice_get_within graphs k graph at in
      let there = graph_there k graph at in
      let same = AllZip-long (IsStateBy (IsSaidBy says.file.tags)) (told_there k).states
      graph.states there.are in
      let has = says.says.graphs in
      let both = graphs_numbered [] has.lines says.file.graphs says.says.rest k no_told_graph
      has.are_graphs (omega (arith, inside, same_count)) in
      (omega (arith, both.0, same), omega (arith, both.1, same))

  -- an edge of a graph stays inside
  edge_inside : (k : ℕ) (graph : StateGraph) → slice_get graphs k ≡ Some graph → (n : ℕ)
      (state : State) (edge : Edge) → slice_get graph.states n ≡ Some state →
      Contains state.edges edge → IsEdgeInside (length graphs) (length graph.states) edge
  edge_inside k graph at n state edge found among =
      let inside = slice_get_within graphs k graph at in
      let told = told_there k in
      let there = graph_there k graph at in
      let same = AllZip-long (IsStateBy (IsSaidBy says.file.tags)) told.states graph.states
      there.are in
      let within = slice_get_within graph.states n state found in
      let told_state = get_or told.states n no_state in
      let of_state : IsStateBy (IsSaidBy says.file.tags) told_state state =
      subst (IsStateBy (IsSaidBy says.file.tags) told_state)
      (get_or_from_slice_get graph.states n state state found)
      (zip_get (IsStateBy (IsSaidBy says.file.tags)) told.states graph.states n no_state state
      there.are within) in
      let edges = AllZip-long (IsEdgeBy (IsSaidBy says.file.tags)) told_state.edges state.edges
      of_state.edges in
      let told_edge = get_or told_state.edges among.0 no_edge in
      let of_edge : IsEdgeBy (IsSaidBy says.file.tags) told_edge edge =
      subst (IsEdgeBy (IsSaidBy says.file.tags) told_edge) among.2
      (zip_get (IsEdgeBy (IsSaidBy says.file.tags)) told_state.edges state.edges among.0 no_edge edge
      of_state.edges among.1) in
      let place = among.1 in
      let fits : FitsEdge (limits_of says.file told) told_edge =
      says.fit k no_told_graph (omega (arith, inside, same_count)) n no_state
      (omega (arith, within, same)) among.0 no_edge (omega (arith, place, edges)) in
      let target = fits.1 in
      let goes = of_edge.target in
      record {
        target = omega (arith, target, goes, same);
        called = subst (λ (count : ℕ). IsCalled count edge.label) (sym same_count)
            (label_called says.file.tags (limits_of says.file told) told_edge.label edge.label
            edge.output fits.0 of_edge.label);
      }

  start : (g : ℕ) (graph : StateGraph) → told_at graphs g ≡ Some graph → 0 < length graph.states
  start zero graph at = let no : None ≡ Some graph = at in cc
  start (suc k) graph at = (numbered k graph at).0

  few : (g : ℕ) (graph : StateGraph) → told_at graphs g ≡ Some graph →
      length graph.states < 4294967296
  few zero graph at = let no : None ≡ Some graph = at in cc
  few (suc k) graph at = (numbered k graph at).1

  edges_inside : (g n : ℕ) (state : State) (edge : Edge) →
      slice_get (told_states graphs g) n ≡ Some state → Contains state.edges edge →
      IsEdgeInside (length graphs) (length (told_states graphs g)) edge
  edges_inside zero n state edge found among = let no : None ≡ Some state = found in cc
  edges_inside (suc k) n state edge found among = by (slice_get graphs k) refl found
    where
      by : (o : Option StateGraph) → slice_get graphs k ≡ o →
          slice_get (told_in o) n ≡ Some state →
          IsEdgeInside (length graphs) (length (told_in o)) edge
      by None at here = let no : None ≡ Some state = here in cc
      by (Some graph) at here = edge_inside k graph at n state edge here among

  pub said_graphs : AreStateGraphs graphs
  said_graphs =
      let count = says.says.graphs.has_count.is_count in
      let some = count.some in
      let most = count.fits in
      record {
        some = omega (arith, some, same_count);
        few = omega (arith, most, same_count);
        inside = record { start = start; few = few; edges = edges_inside };
      }
