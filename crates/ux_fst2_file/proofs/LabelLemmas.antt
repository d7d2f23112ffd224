-- Where the search for a label that doesn't fit has come to.
use Rattle.std.proofs.Common.{arith, ◌≡◌, ℕ, zero, suc, ◌<◌, ◌≤◌, ◌+◌, List, [], ◌∷◌, subst, length, get_or, take}
use Rattle.std.proofs.lemmas.List.{take_more}
use Rattle.std.proofs.lemmas.List.Sums.{sum_by-cons, sum_by-take-drop}
use Rattle.ux_fst2_file.specs.Files.{line_count}
use Rattle.ux_fst2_file.specs.Labels.{FitsState, FitsGraph, StopLabels, StopGraphLabels, limits_of}
use Rattle.ux_fst2_file.specs.Labels.StopLabels.{this_state, later_state}
use Rattle.ux_fst2_file.specs.Labels.StopGraphLabels.{this_graph, later_graph}
use Rattle.ux_fst2_file.specs.declared.file.Fst2State.{Fst2State}
use Rattle.ux_fst2_file.specs.declared.file.Fst2Graph.{Fst2Graph}
use Rattle.ux_fst2_file.specs.declared.file.Fst2File.{Fst2File}
use Rattle.ux_fst2_file.specs.declared.labels.Limits.{Limits}
use Rattle.ux_fst2_file.proofs.ReadLemmas.{line_count_push}

line_count_cons : (graph : Fst2Graph) (graphs : List Fst2Graph) →
    line_count (graph ∷ graphs) ≡ length graph.states + 2 + line_count graphs
line_count_cons graph graphs = sum_by-cons (λ (g : Fst2Graph). length g.states + 2) graph graphs

-- P holds of each element below this place
abbrev pub AllBelow : {X : Type 0} → (X → Type 0) → List X → ℕ → Type 0
AllBelow {X} P xs i = (k : ℕ) (d : X) → k < i → P (get_or xs k d)

pub below_more : {X : Type 0} (P : X → Type 0) (xs : List X) (i : ℕ) (d : X) → i < length xs →
    AllBelow P xs i → P (get_or xs i d) → AllBelow P xs (i + 1)
below_more P [] i d lt below is = absurd (omega (arith, lt))
below_more P (x ∷ xs) zero d lt below is =
    λ k e kt. let z : k ≡ 0 = omega (arith, kt) in rw z is
below_more P (x ∷ xs) (suc i) d lt below is =
    at (below_more P xs i d (omega (arith, lt)) (λ j f jt. below (suc j) f (omega (arith, jt))) is)
  where
    at : AllBelow P xs (i + 1) → (k : ℕ) (e : _) → k < suc i + 1 → P (get_or (x ∷ xs) k e)
    at later zero e kt = below 0 e (omega arith)
    at later (suc k) e kt = later k e (omega (arith, kt))

-- the first state that doesn't fit
pub stop_at : (limits : Limits) (states : List Fst2State) (i number : ℕ) (d : Fst2State) →
    i < length states → AllBelow (FitsState limits) states i →
    (FitsState limits (get_or states i d) → ⊥) → StopLabels limits number states (number + i)
stop_at limits [] i number d lt below bad = absurd (omega (arith, lt))
stop_at limits (s ∷ states) zero number d lt below bad =
    let e : number ≡ number + 0 = omega arith in
    subst (λ n. StopLabels limits number (s ∷ states) n) e (this_state number s states bad)
stop_at limits (s ∷ states) (suc i) number d lt below bad =
    let e : number + 1 + i ≡ number + suc i = omega arith in
    subst (λ n. StopLabels limits number (s ∷ states) n) e
    (later_state number (number + 1 + i) s states (below 0 d (omega arith))
    (stop_at limits states i (number + 1) d (omega (arith, lt))
    (λ k f kt. below (suc k) f (omega (arith, kt))) bad))

-- it is one of the states
pub stop_within : (limits : Limits) (number : ℕ) (states : List Fst2State) (stop : ℕ) →
    StopLabels limits number states stop → stop < number + length states
stop_within limits number states stop (this_state n state later bad) = omega arith
stop_within limits number states stop (later_state n s state later fits stops) =
    omega (arith, stop_within limits (number + 1) later stop stops)

-- the first graph with such a state
pub stop_in : (file : Fst2File) (graphs : List Fst2Graph) (i number stop : ℕ) (d : Fst2Graph) →
    i < length graphs → AllBelow (FitsGraph file) graphs i →
    StopLabels (limits_of file (get_or graphs i d)) (number + line_count (take i graphs) + 1)
    (get_or graphs i d).states stop → StopGraphLabels file number graphs stop
stop_in file [] i number stop d lt below stops = absurd (omega (arith, lt))
stop_in file (g ∷ graphs) zero number stop d lt below stops =
    let e : number + line_count (take 0 (g ∷ graphs)) + 1 ≡ number + 1 = omega arith in
    this_graph number stop g graphs
    (subst (λ n. StopLabels (limits_of file g) n g.states stop) e stops)
stop_in file (g ∷ graphs) (suc i) number stop d lt below stops =
    let e : number + line_count (take (suc i) (g ∷ graphs)) + 1
    ≡ number + (length g.states + 2) + line_count (take i graphs) + 1 =
    omega (arith, line_count_cons g (take i graphs)) in
    later_graph number stop g graphs (below 0 d (omega arith))
    (stop_in file graphs i (number + (length g.states + 2)) stop d (omega (arith, lt))
    (λ k f kt. below (suc k) f (omega (arith, kt)))
    (subst (λ n. StopLabels (limits_of file (get_or graphs i d)) n (get_or graphs i d).states stop)
    e
    stops))

-- the lines of the graphs below a place, with those of the graph there
pub line_count_more : (graphs : List Fst2Graph) (i : ℕ) (d : Fst2Graph) → i < length graphs →
    line_count (take (i + 1) graphs)
    ≡ line_count (take i graphs) + (length (get_or graphs i d).states + 2)
line_count_more graphs i d lt =
    rw (take_more graphs i d lt) (line_count_push (take i graphs) (get_or graphs i d))

pub line_count_part : (graphs : List Fst2Graph) (i : ℕ) →
    line_count (take i graphs) ≤ line_count graphs
line_count_part graphs i =
    omega (arith, sum_by-take-drop (λ (g : Fst2Graph). length g.states + 2) graphs i)
