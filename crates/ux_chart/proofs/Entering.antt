-- What is entered from a configuration is done, and what the rows tell of it is right.
use Rattle.std.proofs.Common.{arith, ◌≡◌, ℕ, zero, suc, ◌+◌, ◌-◌, ◌<◌, ◌≤◌, List, [], ◌∷◌, ◌↔◌, inl, inr, refl, sym, ap, subst, ◌∙◌, length, get_or}
use Rattle.std.specs.Prelude.{Contains, Option, Some, None, slice_get, slice_range}
use Rattle.std.proofs.lemmas.Option.{slice_get_within, slice_get-get_or, none-some}
use Rattle.ux_net.specs.declared.label.Label.{Label}
use Rattle.ux_net.specs.declared.state.Edge.{Edge}
use Rattle.ux_net.specs.declared.state.State.{State}
use Rattle.ux_net.specs.declared.net_graph.NetGraph.{NetGraph}
use Rattle.ux_net.specs.Words.{Step}
use Rattle.ux_net.specs.Nets.{states_of, states_in, net_grammar, IsNetStep}
use Rattle.ux_base.proofs.Lists.{nothing_in, less_or}
use Rattle.ux_meaning.specs.Inputs.{Input}
use Rattle.ux_parts.specs.declared.parts.Parts.{Parts}
use Rattle.ux_parts.specs.Parts.{number_of, Opens, ArePartsOf}
use Rattle.ux_parts.specs.Runs.{Ends}
use Rattle.ux_parts.specs.Ordered.{AreSingle, NeverRises}
use Rattle.ux_chart.specs.declared.chart.Begun.{Begun}
use Rattle.ux_chart.specs.declared.chart.Chart.{Chart}
use Rattle.ux_chart.specs.declared.config.Config.{Config}
use Rattle.ux_chart.specs.declared.table.Answer.{Answer}
use Rattle.ux_chart.specs.declared.table.Stretch.{Stretch}
use Rattle.ux_chart.specs.declared.table.Table.{Table}
use Rattle.ux_chart.specs.Rows.{IsAnswer, IsWholeRow, IsFilled, IsRowAt, IsLaidOut, AreTold, AreRows}
use Rattle.ux_chart.specs.Search.{IsReady}
use Rattle.ux_chart.specs.Tables.{IsTable, cut}
use Rattle.ux_chart.proofs.Cuts.{cut_none}

pub single : (net : List NetGraph) → AreSingle (net_grammar net)
single net = record { single = λ g s step. (step.edge.label, step.label) }

-- an edge as a step
abbrev pub step_of : (from : ℕ) → Edge → Step
step_of from edge = record {
  from = from;
  to = edge.target;
  output = edge.output;
  labels = edge.label ∷ [];
}

-- an edge that stands in the graph
abbrev pub IsEdge : List NetGraph → (g from : ℕ) → Edge → Type 0
IsEdge net g from edge =
    (state : State) × (slice_get (states_of net g) from ≡ Some state) × Contains state.edges edge

pub is_step : (net : List NetGraph) (g from : ℕ) (edge : Edge) → IsEdge net g from edge →
    IsNetStep (states_of net g) (step_of from edge)
is_step net g from edge inside = record {
  state = inside.0;
  found = inside.1;
  edge = edge;
  inside = inside.2;
  to = refl;
  label = refl;
  puts = refl;
}

-- a graph that has a state is there
pub is_graph : (net : List NetGraph) (g n : ℕ) (state : State) →
    slice_get (states_of net g) n ≡ Some state → (1 ≤ g) × (g ≤ length net)
is_graph net zero n state found =
    absurd (let w = slice_get_within [] n state found in omega arith)
is_graph net (suc g) n state found = by (slice_get net g) refl
  where
    by : (o : Option NetGraph) → slice_get net g ≡ o → (1 ≤ suc g) × (suc g ≤ length net)
    by None e =
        let none : slice_get [] n ≡ Some state =
        subst (λ (o : Option NetGraph). slice_get (states_in o) n ≡ Some state) e found in
        absurd (let w = slice_get_within [] n state none in omega arith)
    by (Some graph) e = let w = slice_get_within net g graph e in (omega arith, omega arith)

-- the rows of a chart are laid out
pub laid_out : (input : Input) (net : List NetGraph) (parts : Parts) (chart : Chart) →
    IsTable chart.table → AreRows input net parts chart.last chart.rows.items chart.table →
    IsLaidOut chart
laid_out input net parts chart table done = record {
  table_is = table;
  sorted = λ place row found. (done place row found).2.sorted;
}

-- a row without answers tells nothing
pub told_empty : (parts : Parts) (table : Table) (row : Stretch) (g state : ℕ) →
    row.from ≡ row.to → AreTold parts table row g state [] []
told_empty parts table row g state same = record {
  part = λ number is. record {
    told_ends = λ answer h. absurd (none answer h.inside);
    told_closers = λ answer h. absurd (none answer h.inside);
    no_ends = λ never. refl;
    no_closers = λ never. refl;
  };
  no_ends = λ is. refl;
  no_closers = λ is. refl;
}
  where
    none : (answer : Answer) → Contains (cut table.answers.items row) answer → ⊥
    none answer h = nothing_in (subst (λ (l : List Answer). Contains l answer)
        (ap (λ n. slice_range table.answers.items n row.to) same
        ∙ cut_none table.answers.items row.to) h)

-- no part begins at the state
pub told_none : (parts : Parts) (table : Table) (row : Stretch) (g state : ℕ) →
    None ≡ number_of parts g state → AreTold parts table row g state [] []
told_none parts table row g state is = record {
  part = λ other there. absurd (none-some other (is ∙ there));
  no_ends = λ none. refl;
  no_closers = λ none. refl;
}

-- a filled chart has a row for each position
pub row_of_all : (chart : Chart) (at : ℕ) → length chart.rows.items ≡ chart.last + 1 →
    at ≤ chart.last → (row : Stretch) × (slice_get chart.rows.items (chart.last - at) ≡ Some row)
row_of_all chart at count to =
    let none : Stretch = record { from = 0; to = 0 } in (
      get_or chart.rows.items (chart.last - at) none,
      slice_get-get_or chart.rows.items (chart.last - at) none (omega arith),
    )

-- and one that is being filled for each position from the begun one on
pub row_there : (chart : Chart) (begun : Begun) (at : ℕ) →
    length chart.rows.items + begun.at ≡ chart.last → begun.at ≤ at → at ≤ chart.last →
    (row : Stretch) × IsRowAt chart begun at row
row_there chart begun at count from to = elim (less_or begun.at at) [
  | inl l ↦ (
    get_or chart.rows.items (chart.last - at) begun.row,
    inr (slice_get-get_or chart.rows.items (chart.last - at) begun.row (omega arith)),
  )
  | inr m ↦ (begun.row, inl (omega arith, refl))
]

module _ (net : List NetGraph) (parts : Parts) (are : ArePartsOf net parts) (g from : ℕ)
    (edge : Edge) (inside : IsEdge net g from edge) where
  pub never_rises : (x : Label) → edge.label ≡ x →
      NeverRises (net_grammar net) are.rank g from edge.target x
  never_rises x named = subst (NeverRises (net_grammar net) are.rank g from edge.target) named
      (are.ordered.falls g (step_of from edge) edge.label (is_step net g from edge inside) refl)

  pub opens : (x : Label) → edge.label ≡ x → Opens net parts g edge.target x
  opens x named = subst (Opens net parts g edge.target) named
      (are.contexts g from inside.0 edge inside.1 inside.2)

module _ (input : Input) (net : List NetGraph) (parts : Parts) (are : ArePartsOf net parts) where
  -- what a whole row tells of a part
  pub told_whole : (i : ℕ) (chart : Chart) (row : Stretch) (h a number : ℕ) (js cs : List ℕ) →
      IsWholeRow input net parts chart.table row i → number_of parts h a ≡ Some number →
      AreTold parts chart.table row h a js cs → IsAnswer input net parts h a i js cs
  told_whole i chart row h a number js cs whole told tells =
      let at = are.numbers h a number told in
      let inside = slice_get_within parts.list number at.part at.found in
      let fits = whole.1 in
      let right = whole.2.right number at.part js cs (omega arith) at.found
      (tells.part number told) in
      subst (λ p. IsAnswer input net parts p a i js cs) at.graph
      (subst (λ p. IsAnswer input net parts at.part.graph p i js cs) at.first right)

  -- what is entered from a configuration that is ready, by an edge that leads lower
  pub entered_answer : (chart : Chart) (begun : Begun) (g : ℕ) (here : Config) →
      IsFilled input net parts chart begun →
      IsReady net parts chart.last begun.at begun.number g here → (h a number : ℕ) →
      number_of parts h a ≡ Some number → are.rank h a < are.rank g here.state →
      (row : Stretch) (js cs : List ℕ) → IsRowAt chart begun here.at row →
      AreTold parts chart.table row h a js cs → IsAnswer input net parts h a here.at js cs
  entered_answer chart begun g here filled ready h a number told lower row js cs known tells =
      elim known [
        | inl k ↦
            let at = are.numbers h a number told in
            let high = ready.before are k.0 in
            let low : are.rank at.part.graph at.part.first < are.rank ready.part.graph ready.part.first =
            subst (λ p. are.rank p at.part.first < are.rank ready.part.graph ready.part.first)
            (sym at.graph)
            (subst (λ p. are.rank h p < are.rank ready.part.graph ready.part.first)
            (sym at.first) (omega arith)) in
            let before = are.sorted number begun.number at.part ready.part at.found ready.found
            low in
            let tells_begun = subst (λ (r : Stretch). AreTold parts chart.table r h a js cs) k.1
            tells in
            let right = filled.begun_is.right number at.part js cs before at.found
            (tells_begun.part number told) in
            subst (λ p. IsAnswer input net parts h a p js cs) (sym k.0)
            (subst (λ p. IsAnswer input net parts p a begun.at js cs) at.graph
            (subst (λ p. IsAnswer input net parts at.part.graph p begun.at js cs) at.first right))
        | inr k ↦
            let to = ready.to in
            let place : chart.last - (chart.last - here.at) ≡ here.at = omega arith in
            told_whole here.at chart row h a number js cs
            (subst (λ p. IsWholeRow input net parts chart.table row p) place
            (filled.done (chart.last - here.at) row k)) told tells
      ]

  -- a call: of a graph that isn't there too
  pub call_ends : (h i : ℕ) (row : Stretch) (chart : Chart) (js cs : List ℕ) →
      AreTold parts chart.table row h 0 js cs →
      ((number : ℕ) → number_of parts h 0 ≡ Some number → IsAnswer input net parts h 0 i js cs) →
      (j : ℕ) → Contains js j ↔ Ends input (net_grammar net) parts.levels h 0 i j
  call_ends h i row chart js cs tells answer j = by (number_of parts h 0) refl
    where
      by : (o : Option ℕ) → number_of parts h 0 ≡ o →
          Contains js j ↔ Ends input (net_grammar net) parts.levels h 0 i j
      by None e = (
        λ c. absurd (nothing_in (subst (λ (l : List ℕ). Contains l j) (tells.no_ends e) c)),
        λ ends.
            let there = is_graph net h ends.last ends.ends.state ends.ends.found in
            let begins = are.graphs h there.0 there.1 in
            absurd (let never : Some begins.0 ≡ None = sym begins.1 ∙ e in let no : ⊥ = cc in no),
      )
      by (Some number) e = (answer number e).ends j
