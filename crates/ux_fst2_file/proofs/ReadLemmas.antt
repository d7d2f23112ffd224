-- What was read so far, and what stops the reading.
use Rattle.std.proofs.Common.{arith, ◌≡◌, ℕ, ◌<◌, ◌≤◌, ◌-◌, ◌+◌, Bool, true, false, List, [], ◌∷◌, ◌++◌, refl, sym, ◌∙◌, ap, subst, append_assoc, append-nil, length, length-append, inl, inr}
use Rattle.std.specs.Prelude.{◌⊎◌}
use Rattle.std.proofs.lemmas.List.Sums.{sum_by_push}
use Rattle.ux_fst2_file.specs.Lines.{IsEnd}
use Rattle.ux_fst2_file.specs.Files.{EndsGraph, AddsState, BeginStates, end_line, state_line, BeginGraphs, no_graph, graph_then, AreTags, no_line, last_line, tag_line, line_count}
use Rattle.ux_fst2_file.specs.Refusals.{StopStates, StopGraphs}
use Rattle.ux_fst2_file.specs.Refusals.StopStates.{later_state}
use Rattle.ux_fst2_file.specs.Refusals.StopGraphs.{later_graph}
use Rattle.ux_fst2_file.specs.Reading.{IsNextGraph, StopsAtLine, StopsNextGraph}
use Rattle.ux_fst2_file.specs.declared.error.Fst2Error.{Fst2Error}
use Rattle.ux_fst2_file.specs.declared.error.Fst2Error.TheVariants.{BadLine, NoMemory}
use Rattle.ux_fst2_file.specs.declared.cursor.Cursor.{Cursor}
use Rattle.ux_fst2_file.specs.declared.file.Fst2State.{Fst2State}
use Rattle.ux_fst2_file.specs.declared.file.Fst2Graph.{Fst2Graph}

-- one more graph, and its lines
pub line_count_push : (graphs : List Fst2Graph) (graph : Fst2Graph) →
    line_count (graphs ++ graph ∷ []) ≡ line_count graphs + (length graph.states + 2)
line_count_push graphs graph = sum_by_push (λ (g : Fst2Graph). length g.states + 2) graphs graph

-- states
pub record AreStatesTo (all left : List (List ℕ)) (first number : ℕ) (read : List Fst2State) :
    Type 0 where
  pub counted : number + 1 ≡ first + length read
  pub said : (later : List Fst2State) (rest : List (List ℕ)) →
      BeginStates (length read) left later rest → BeginStates 0 all (read ++ later) rest
  pub stops : (line : ℕ) → StopStates (length read) (number + 1) left line →
      StopStates 0 first all line

pub states_start : (all : List (List ℕ)) (number : ℕ) → AreStatesTo all all (number + 1) number []
states_start all number = record {
  counted = omega arith;
  said = λ later rest h. h;
  stops = λ line h. h;
}

module _ (all left : List (List ℕ)) (first number : ℕ) (read : List Fst2State)
    (so_far : AreStatesTo all left first number read) (line : List ℕ) (rest : List (List ℕ))
    (is : left ≡ line ∷ rest) where
  pub states_end : EndsGraph (length read) line → BeginStates 0 all read rest
  states_end ends =
      subst (λ (t : List Fst2State). BeginStates 0 all t rest) (append-nil read)
      (so_far.said [] rest (subst (λ (t : List (List ℕ)). BeginStates (length read) t [] rest)
      (sym is) (end_line (length read) line rest ends)))

  pub states_more : (state : Fst2State) (new : List Fst2State) →
      AddsState (length read) line state → new ≡ read ++ state ∷ [] →
      AreStatesTo all rest first (number + 1) new
  states_more state new adds added =
      let long : length new ≡ length read + 1 =
      omega (arith, ap length added, length-append read (state ∷ [])) in
      record {
        counted = omega (arith, so_far.counted, long);
        said = λ later r h.
            subst (λ (t : List Fst2State). BeginStates 0 all t r)
            (sym (append_assoc read (state ∷ []) later)
            ∙ ap (λ (t : List Fst2State). t ++ later) (sym added))
            (so_far.said (state ∷ later) r
            (subst (λ (t : List (List ℕ)). BeginStates (length read) t (state ∷ later) r) (sym is)
            (state_line (length read) line rest r state later adds
            (subst (λ n. BeginStates n rest later r) long h))));
        stops = λ stop h.
            so_far.stops stop
            (subst (λ (t : List (List ℕ)). StopStates (length read) (number + 1) t stop) (sym is)
            (later_state (length read) (number + 1) stop line rest state adds
            (subst (λ n. StopStates n (number + 1 + 1) rest stop) long h)));
      }

-- graphs
pub record AreGraphsTo (all left : List (List ℕ)) (first number : ℕ) (names : List (List ℕ))
    (read : List Fst2Graph) : Type 0 where
  pub named : length names ≡ length read
  pub counted : number + 1 ≡ first + line_count read
  pub said : (later : List Fst2Graph) (rest : List (List ℕ)) → BeginGraphs names left later rest →
      BeginGraphs [] all (read ++ later) rest
  pub stops : (wanted line : ℕ) → length read ≤ wanted →
      StopGraphs (wanted - length read) names (number + 1) left line →
      StopGraphs wanted [] first all line

pub graphs_start : (all : List (List ℕ)) (number : ℕ) →
    AreGraphsTo all all (number + 1) number [] []
graphs_start all number = record {
  named = refl;
  counted = omega arith;
  said = λ later rest h. h;
  stops = λ wanted line le h. subst (λ n. StopGraphs n [] (number + 1) all line) (minus_zero wanted)
      h;
}
  where
    minus_zero : (n : ℕ) → n - length {A = Fst2Graph} [] ≡ n
    minus_zero n = omega arith

pub graphs_whole : (all left : List (List ℕ)) (first number : ℕ) (names : List (List ℕ))
    (read : List Fst2Graph) → AreGraphsTo all left first number names read →
    BeginGraphs [] all read left
graphs_whole all left first number names read so_far =
    subst (λ (t : List Fst2Graph). BeginGraphs [] all t left) (append-nil read)
    (so_far.said [] left (no_graph names left))

pub graphs_more : (all : List (List ℕ)) (old new : Cursor) (first : ℕ) (names more : List (List ℕ))
    (read longer : List Fst2Graph) (graph : Fst2Graph) →
    AreGraphsTo all old.lines first old.number names read → IsNextGraph names old new graph →
    more ≡ names ++ graph.name ∷ [] → longer ≡ read ++ graph ∷ [] →
    AreGraphsTo all new.lines first new.number more longer
graphs_more all old new first names more read longer graph so_far is is_more added =
    let long : length longer ≡ length read + 1 =
    omega (arith, ap length added, length-append read (graph ∷ [])) in
    let line : old.number + 1 + (length graph.states + 2) ≡ new.number + 1 =
    omega (arith, is.count) in
    record {
      named = omega (
        arith,
        so_far.named,
        long,
        ap length is_more,
        length-append names (graph.name ∷ []),
      );
      counted = omega (
        arith,
        so_far.counted,
        is.count,
        ap line_count added,
        line_count_push read graph,
      );
      said = λ later rest h.
          subst (λ (t : List Fst2Graph). BeginGraphs [] all t rest)
          (sym (append_assoc read (graph ∷ []) later)
          ∙ ap (λ (t : List Fst2Graph). t ++ later) (sym added))
          (so_far.said (graph ∷ later) rest
          (subst (λ (t : List (List ℕ)). BeginGraphs names t (graph ∷ later) rest) (sym is.whole)
          (graph_then names is.line is.lines new.lines rest graph later is.head is.begin
          (subst (λ (t : List (List ℕ)). BeginGraphs t new.lines later rest) is_more h))));
      stops = λ wanted stop le h.
          so_far.stops wanted stop (omega (arith, le, long))
          (subst (λ (t : List (List ℕ)). StopGraphs (wanted - length read) names
          (old.number + 1) t stop)
          (sym is.whole)
          (later_graph (wanted - length read) names (old.number + 1) stop is.line graph.name
          graph.states is.lines new.lines (omega (arith, le, long)) is.head is.begin
          (subst (λ n. StopGraphs n (names ++ graph.name ∷ [])
          (old.number + 1 + (length graph.states + 2))
          new.lines stop) (less wanted (length read) (length longer) long)
          (subst (λ n. StopGraphs (wanted - length longer) (names ++ graph.name ∷ []) n new.lines
          stop)
          (sym line)
          (subst (λ (t : List (List ℕ)). StopGraphs (wanted - length longer) t
          (new.number + 1) new.lines stop)
          is_more h)))));
    }
  where
    less : (wanted n m : ℕ) → m ≡ n + 1 → wanted - m ≡ wanted - n - 1
    less wanted n m e = omega (arith, e)

-- tags
pub record AreTagsTo (all left : List (List ℕ)) (read : List (List ℕ)) : Type 0 where
  pub said : (later : List (List ℕ)) (is_ended : Bool) → AreTags left later is_ended →
      AreTags all (read ++ later) is_ended

pub tags_start : (all : List (List ℕ)) → AreTagsTo all all []
tags_start all = record { said = λ later is_ended h. h }

module _ (all left read : List (List ℕ)) (so_far : AreTagsTo all left read) where
  tags_whole : (is_ended : Bool) → AreTags left [] is_ended → AreTags all read is_ended
  tags_whole is_ended h =
      subst (λ (t : List (List ℕ)). AreTags all t is_ended) (append-nil read)
      (so_far.said [] is_ended h)

  pub tags_open : left ≡ [] → AreTags all read false
  tags_open none =
      tags_whole false (subst (λ (t : List (List ℕ)). AreTags t [] false) (sym none) no_line)

  module _ (line : List ℕ) (rest : List (List ℕ)) (is : left ≡ line ∷ rest) where
    pub tags_end : IsEnd line → AreTags all read true
    tags_end ends =
        tags_whole true
        (subst (λ (t : List (List ℕ)). AreTags t [] true) (sym is) (last_line line rest ends))

    pub tags_more : (new : List (List ℕ)) → (IsEnd line → ⊥) → new ≡ read ++ line ∷ [] →
        AreTagsTo all rest new
    tags_more new other added = record {
      said = λ later is_ended h.
          subst (λ (t : List (List ℕ)). AreTags all t is_ended)
          (sym (append_assoc read (line ∷ []) later)
          ∙ ap (λ (t : List (List ℕ)). t ++ later) (sym added))
          (so_far.said (line ∷ later) is_ended
          (subst (λ (t : List (List ℕ)). AreTags t (line ∷ later) is_ended) (sym is)
          (tag_line line rest later is_ended other h)));
    }

-- how an error tells where reading stops
pub here_stops : (Stops : ℕ → Type 0) (told number : ℕ) → told ≡ number + 1 → Stops (number + 1) →
    (BadLine told ≡ NoMemory) ⊎ StopsAtLine Stops (BadLine told)
here_stops Stops told number e h = inr (told, refl, subst Stops (sym e) h)

pub states_stop : (all left : List (List ℕ)) (first number : ℕ) (read : List Fst2State) →
    AreStatesTo all left first number read → (line : List ℕ) (rest : List (List ℕ)) →
    left ≡ line ∷ rest → StopStates (length read) (number + 1) (line ∷ rest) (number + 1) →
    StopStates 0 first all (number + 1)
states_stop all left first number read so_far line rest is h =
    so_far.stops (number + 1)
    (subst (λ (t : List (List ℕ)). StopStates (length read) (number + 1) t (number + 1)) (sym is) h)

-- the next graph is refused
pub graphs_stop : (all left : List (List ℕ)) (first number : ℕ) (names : List (List ℕ))
    (read : List Fst2Graph) → AreGraphsTo all left first number names read → (count : ℕ)
    (error : Fst2Error) → length read < count →
    (error ≡ NoMemory) ⊎ StopsAtLine (StopsNextGraph names (number + 1) left) error →
    (error ≡ NoMemory) ⊎ StopsAtLine (StopGraphs count [] first all) error
graphs_stop all left first number names read so_far count error lt (inl none) = inl none
graphs_stop all left first number names read so_far count error lt (inr stop) =
    inr (
      stop.0,
      stop.1,
      so_far.stops count stop.0 (omega (arith, lt))
          (stop.2 (count - length read) (omega (arith, lt))),
    )
