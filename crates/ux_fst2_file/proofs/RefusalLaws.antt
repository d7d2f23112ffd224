-- A text is refused for one reason, and none that says a file is refused.
use Rattle.std.proofs.Common.{arith, ◌≡◌, ℕ, ◌+◌, ◌-◌, Bool, List, [], ◌∷◌, ◌++◌, refl, ap, subst, length}
use Rattle.ux_fst2_file.specs.Files.{BeginStates, end_line, state_line, BeginGraphs, no_graph, graph_then, Says}
use Rattle.ux_fst2_file.specs.Refusals.{StopStates, StopGraphs, Refuses}
use Rattle.ux_fst2_file.specs.Refusals.StopStates.{no_line as no_state_line, bad_line, later_state}
use Rattle.ux_fst2_file.specs.Refusals.StopGraphs.{no_line, no_head, in_states, later_graph}
use Rattle.ux_fst2_file.specs.declared.error.Fst2Error.{Fst2Error}
use Rattle.ux_fst2_file.specs.declared.error.Fst2Error.TheVariants.{BadCount, BadLine, NoMemory}
use Rattle.ux_fst2_file.specs.declared.file.Fst2State.{Fst2State}
use Rattle.ux_fst2_file.specs.declared.file.Fst2Graph.{Fst2Graph}
use Rattle.ux_fst2_file.specs.declared.file.Fst2File.{Fst2File}
use Rattle.ux_fst2_file.proofs.LineLaws.{head_once, end_no_state}
use Rattle.ux_fst2_file.proofs.FileLaws.{states_once, has_count_once}

-- the states of a graph stop at one line
states_stop_once : (before number : ℕ) (lines : List (List ℕ)) (one other : ℕ) →
    StopStates before number lines one → StopStates before number lines other → one ≡ other
states_stop_once before number lines one other (no_state_line _ _) (no_state_line _ _) = refl
states_stop_once before number lines one other (bad_line _ _ _ _ _ _) (bad_line _ _ _ _ _ _) = refl
states_stop_once before number lines one other (bad_line _ _ _ _ _ none)
    (later_state _ _ _ _ _ state adds _) = absurd (none state adds)
states_stop_once before number lines one other (later_state _ _ _ _ _ state adds _)
    (bad_line _ _ _ _ _ none) = absurd (none state adds)
states_stop_once before number lines one other (later_state _ _ _ _ next _ _ stops)
    (later_state _ _ _ _ _ _ _ likewise) =
    states_stop_once (before + 1) (number + 1) next one other stops likewise

-- and at none where the lines begin with states
states_no_stop : (before number : ℕ) (lines : List (List ℕ)) (states : List Fst2State)
    (rest : List (List ℕ)) (stop : ℕ) → BeginStates before lines states rest →
    StopStates before number lines stop → ⊥
states_no_stop before number lines states rest stop (end_line _ _ _ ends)
    (bad_line _ _ _ _ goes_on _) = goes_on ends
states_no_stop before number lines states rest stop (end_line _ line _ ends)
    (later_state _ _ _ _ _ state adds _) = end_no_state line state ends.0 adds.0
states_no_stop before number lines states rest stop (state_line _ _ _ _ state _ adds _)
    (bad_line _ _ _ _ _ none) = none state adds
states_no_stop before number lines states rest stop (state_line _ _ next _ _ later _ begin)
    (later_state _ _ _ _ _ _ _ stops) =
    states_no_stop (before + 1) (number + 1) next later rest stop begin stops

-- the graphs stop at one line
graphs_stop_once : (wanted : ℕ) (names : List (List ℕ)) (number : ℕ) (lines : List (List ℕ))
    (one other : ℕ) → StopGraphs wanted names number lines one →
    StopGraphs wanted names number lines other → one ≡ other
graphs_stop_once wanted names number lines one other (no_line _ _ _ _) (no_line _ _ _ _) = refl
graphs_stop_once wanted names number lines one other (no_head _ _ _ _ _ _ _)
    (no_head _ _ _ _ _ _ _) = refl
graphs_stop_once wanted names number lines one other (no_head _ _ _ _ _ _ none)
    (in_states _ _ _ _ _ name _ _ begins _) = absurd (none name begins)
graphs_stop_once wanted names number lines one other (no_head _ _ _ _ _ _ none)
    (later_graph _ _ _ _ _ name _ _ _ _ begins _ _) = absurd (none name begins)
graphs_stop_once wanted names number lines one other (in_states _ _ _ _ _ name _ _ begins _)
    (no_head _ _ _ _ _ _ none) = absurd (none name begins)
graphs_stop_once wanted names number lines one other (in_states _ _ _ _ _ _ next _ _ stops)
    (in_states _ _ _ _ _ _ _ _ _ likewise) =
    states_stop_once 0 (number + 1) next one other stops likewise
graphs_stop_once wanted names number lines one other (in_states _ _ _ _ _ _ next _ _ stops)
    (later_graph _ _ _ _ _ _ states _ mid _ _ begin _) =
    absurd (states_no_stop 0 (number + 1) next states mid one begin stops)
graphs_stop_once wanted names number lines one other
    (later_graph _ _ _ _ _ name _ _ _ _ begins _ _) (no_head _ _ _ _ _ _ none) =
    absurd (none name begins)
graphs_stop_once wanted names number lines one other
    (later_graph _ _ _ _ _ _ states _ mid _ _ begin _) (in_states _ _ _ _ _ _ next _ _ stops) =
    absurd (states_no_stop 0 (number + 1) next states mid other begin stops)
graphs_stop_once wanted names number lines one other
    (later_graph _ _ _ _ line name states next mid _ begins begin stops)
    (later_graph _ _ _ _ _ second steps _ behind _ also later likewise) =
    let same_name = head_once (length names + 1) line name second begins.0 also.0 in
    let same = states_once 0 next states steps mid behind begin later in
    graphs_stop_once (wanted - 1) (names ++ second ∷ []) (number + (length steps + 2)) behind one
    other
    (subst (λ (t : List ℕ). StopGraphs (wanted - 1) (names ++ t ∷ []) (number + (length steps + 2))
    behind one) same_name
    (subst (λ (t : List Fst2State). StopGraphs (wanted - 1) (names ++ name ∷ [])
    (number + (length t + 2)) behind one) same.0
    (subst (λ (t : List (List ℕ)). StopGraphs (wanted - 1) (names ++ name ∷ [])
    (number + (length states + 2)) t one) same.1 stops))) likewise

-- and at none where the lines begin with as many as are wanted
graphs_no_stop : (wanted : ℕ) (names : List (List ℕ)) (number : ℕ) (lines : List (List ℕ))
    (graphs : List Fst2Graph) (rest : List (List ℕ)) (stop : ℕ) → length graphs ≡ wanted →
    BeginGraphs names lines graphs rest → StopGraphs wanted names number lines stop → ⊥
graphs_no_stop wanted names number lines graphs rest stop many (no_graph _ _)
    (no_line _ _ _ some) = omega (arith, many, some)
graphs_no_stop wanted names number lines graphs rest stop many (no_graph _ _)
    (no_head _ _ _ _ _ some _) = omega (arith, many, some)
graphs_no_stop wanted names number lines graphs rest stop many (no_graph _ _)
    (in_states _ _ _ _ _ _ _ some _ _) = omega (arith, many, some)
graphs_no_stop wanted names number lines graphs rest stop many (no_graph _ _)
    (later_graph _ _ _ _ _ _ _ _ _ some _ _ _) = omega (arith, many, some)
graphs_no_stop wanted names number lines graphs rest stop many
    (graph_then _ _ _ _ _ graph _ begins _ _) (no_head _ _ _ _ _ _ none) = none graph.name begins
graphs_no_stop wanted names number lines graphs rest stop many
    (graph_then _ _ next mid _ graph _ _ begin _) (in_states _ _ _ _ _ _ _ _ _ stops) =
    states_no_stop 0 (number + 1) next graph.states mid stop begin stops
graphs_no_stop wanted names number lines graphs rest stop many
    (graph_then _ line next mid _ graph later begins begin more)
    (later_graph _ _ _ _ _ name states _ behind _ also steps stops) =
    let same_name = head_once (length names + 1) line graph.name name begins.0 also.0 in
    let same = states_once 0 next graph.states states mid behind begin steps in
    graphs_no_stop (wanted - 1) (names ++ name ∷ []) (number + (length states + 2)) behind later
    rest
    stop (omega (arith, many))
    (subst (λ (t : List ℕ). BeginGraphs (names ++ t ∷ []) behind later rest) same_name
    (subst (λ (t : List (List ℕ)). BeginGraphs (names ++ graph.name ∷ []) t later rest) same.1
    more))
    stops

-- a text is refused for one reason
pub refused_once : (text : List ℕ) (one other : Fst2Error) → Refuses text one → Refuses text other →
    one ≡ other
refused_once text BadCount BadCount is also = refl
refused_once text BadCount (BadLine m) is also = absurd (is also.0 also.1 also.2)
refused_once text BadCount NoMemory is also = absurd also
refused_once text (BadLine n) BadCount is also = absurd (also is.0 is.1 is.2)
refused_once text (BadLine n) (BadLine m) is also =
    let same = has_count_once text is.0 also.0 is.1 also.1 is.2 also.2 in
    ap BadLine (graphs_stop_once also.0 [] 2 also.1 n m
    (subst (λ (w : ℕ). StopGraphs w [] 2 also.1 n) same.0
    (subst (λ (ls : List (List ℕ)). StopGraphs is.0 [] 2 ls n) same.1 is.3)) also.3)
refused_once text (BadLine n) NoMemory is also = absurd also
refused_once text NoMemory other is also = absurd is

-- and for none where it says a file
pub said_not_refused : (text : List ℕ) (file : Fst2File) (is_ended : Bool) (error : Fst2Error) →
    Says text file is_ended → Refuses text error → ⊥
said_not_refused text file is_ended BadCount says refuses =
    let is = says.graphs in
    refuses (length file.graphs) is.lines is.has_count
said_not_refused text file is_ended (BadLine line) says refuses =
    let is = says.graphs in
    let same = has_count_once text (length file.graphs) refuses.0 is.lines refuses.1 is.has_count
    refuses.2 in
    graphs_no_stop refuses.0 [] 2 refuses.1 file.graphs says.rest line same.0
    (subst (λ (ls : List (List ℕ)). BeginGraphs [] ls file.graphs says.rest) same.1 is.are_graphs)
    refuses.3
said_not_refused text file is_ended NoMemory says refuses = refuses
