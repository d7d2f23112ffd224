-- A text says one compiled grammar.
use Rattle.std.proofs.Common.{arith, ◌≡◌, ℕ, ◌+◌, Bool, List, [], ◌∷◌, ◌++◌, refl, sym, ◌∙◌, ap, subst, get_or, length}
use Rattle.ux_fst2_file.specs.Lines.{IsCount}
use Rattle.ux_fst2_file.specs.Files.{BeginStates, end_line, state_line, BeginGraphs, no_graph, graph_then, AreTags, no_line, last_line, tag_line, HasCount, Says}
use Rattle.ux_fst2_file.specs.declared.file.Fst2State.{Fst2State}
use Rattle.ux_fst2_file.specs.declared.file.Fst2Graph.{Fst2Graph}
use Rattle.ux_fst2_file.specs.declared.file.Fst2File.{Fst2File}
use Rattle.ux_fst2_file.proofs.LineLaws.{behind as after_first, count_once, head_once, state_once, end_no_state}

-- lines begin with one list of states, and leave one rest
pub states_once : (before : ℕ) (lines : List (List ℕ)) (one other : List Fst2State)
    (rest left : List (List ℕ)) → BeginStates before lines one rest →
    BeginStates before lines other left → (one ≡ other) × (rest ≡ left)
states_once before lines one other rest left (end_line _ _ _ _) (end_line _ _ _ _) =
    (refl, refl)
states_once before lines one other rest left (end_line _ line _ ends)
    (state_line _ _ _ _ state _ adds _) = absurd (end_no_state line state ends.0 adds.0)
states_once before lines one other rest left
    (state_line _ line _ _ state _ adds _) (end_line _ _ _ ends) =
    absurd (end_no_state line state ends.0 adds.0)
states_once before lines one other rest left (state_line _ line next _ state states adds begin)
    (state_line _ _ _ _ second seconds also later) =
    let more = states_once (before + 1) next states seconds rest left begin later in (
      ap (λ (s : Fst2State). s ∷ states) (state_once line state second adds.0 also.0)
          ∙ ap (λ (ss : List Fst2State). second ∷ ss) more.0,
      more.1,
    )

abbrev graph_of : List ℕ → List Fst2State → Fst2Graph
graph_of name states = record { name = name; states = states }

-- and with one list of so many graphs
pub graphs_once : (names lines : List (List ℕ)) (one other : List Fst2Graph)
    (rest left : List (List ℕ)) → BeginGraphs names lines one rest →
    BeginGraphs names lines other left → length one ≡ length other →
    (one ≡ other) × (rest ≡ left)
graphs_once names lines one other rest left (no_graph _ _) (no_graph _ _) same = (refl, refl)
graphs_once names lines one other rest left (no_graph _ _)
    (graph_then _ _ _ _ _ _ _ _ _ _) same = absurd (omega (arith, same))
graphs_once names lines one other rest left
    (graph_then _ _ _ _ _ _ _ _ _ _) (no_graph _ _) same = absurd (omega (arith, same))
graphs_once names lines one other rest left
    (graph_then _ line next mid _ graph graphs head states begin)
    (graph_then _ _ _ behind _ second seconds also steps later) same =
    let name = head_once (length names + 1) line graph.name second.name head.0 also.0 in
    let here = states_once 0 next graph.states second.states mid behind states steps in
    let moved = subst (λ (t : List ℕ). BeginGraphs (names ++ t ∷ []) behind graphs rest) name
    (subst (λ (t : List (List ℕ)). BeginGraphs (names ++ graph.name ∷ []) t graphs rest) here.1
    begin) in
    let more = graphs_once (names ++ second.name ∷ []) behind graphs seconds rest left moved later
    (omega (arith, same)) in (
      ap (λ (t : List ℕ). graph_of t graph.states ∷ graphs) name
          ∙ (ap (λ (ss : List Fst2State). graph_of second.name ss ∷ graphs) here.0
          ∙ ap (λ (gs : List Fst2Graph). second ∷ gs) more.0),
      more.1,
    )

-- and with one list of tags, which are ended or not
pub tags_once : (lines one other : List (List ℕ)) (ended also : Bool) → AreTags lines one ended →
    AreTags lines other also → (one ≡ other) × (ended ≡ also)
tags_once lines one other ended also no_line no_line = (refl, refl)
tags_once lines one other ended also (last_line _ _ _) (last_line _ _ _) = (refl, refl)
tags_once lines one other ended also (last_line _ _ ends)
    (tag_line _ _ _ _ goes_on _) = absurd (goes_on ends)
tags_once lines one other ended also (tag_line _ _ _ _ goes_on _)
    (last_line _ _ ends) = absurd (goes_on ends)
tags_once lines one other ended also (tag_line line next tags _ _ begin)
    (tag_line _ _ seconds _ _ later) =
    let more = tags_once next tags seconds ended also begin later in
    (ap (λ (ts : List (List ℕ)). line ∷ ts) more.0, more.1)

-- a text has one number of graphs, and one rest behind it
pub has_count_once : (text : List ℕ) (one other : ℕ) (lines rest : List (List ℕ)) →
    HasCount text one lines → HasCount text other rest → (one ≡ other) × (lines ≡ rest)
has_count_once text one other lines rest is also =
    let same = sym is.whole ∙ also.whole in
    let first = ap (λ (ls : List (List ℕ)). get_or ls 0 []) same in (
      count_once also.first one other (subst (λ (l : List ℕ). IsCount l one) first is.is_count)
          also.is_count,
      ap after_first same,
    )

abbrev file_of : List Fst2Graph → List (List ℕ) → Fst2File
file_of graphs tags = record { graphs = graphs; tags = tags }

-- a text says one file, and the last `f` is there or not
pub file_once : (text : List ℕ) (one other : Fst2File) (ended also : Bool) → Says text one ended →
    Says text other also → (one ≡ other) × (ended ≡ also)
file_once text one other ended also says likewise =
    let first = says.graphs in
    let second = likewise.graphs in
    let count = has_count_once text (length one.graphs) (length other.graphs) first.lines
    second.lines
    first.has_count second.has_count in
    let graphs = graphs_once [] second.lines one.graphs other.graphs says.rest likewise.rest
    (subst (λ (ls : List (List ℕ)). BeginGraphs [] ls one.graphs says.rest) count.1
    first.are_graphs)
    second.are_graphs count.0 in
    let tags = tags_once likewise.rest one.tags other.tags ended also
    (subst (λ (ls : List (List ℕ)). AreTags ls one.tags ended) graphs.1 says.tags) likewise.tags
    in (
      ap (λ (gs : List Fst2Graph). file_of gs one.tags) graphs.0
          ∙ ap (λ (ts : List (List ℕ)). file_of other.graphs ts) tags.0,
      tags.1,
    )
