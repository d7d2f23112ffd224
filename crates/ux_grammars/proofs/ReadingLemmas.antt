-- The graphs of a grammar, read one after another: what the table of names tells of them.
use Rattle.std.proofs.Common.{arith, ◌≡◌, ◌≢◌, ℕ, zero, suc, ◌<◌, ◌≤◌, ◌⊎◌, inl, inr, List, [], ◌∷◌, ◌++◌, length, get_or, refl, sym, ◌∙◌, ap, subst, Option, Some, None, String, Global}
use Rattle.std.specs.Prelude.{AllPairs, Contains, slice_get, string_bytes}
use Rattle.std.specs.List.{flat_map}
use Rattle.std.specs.Option.{option_map}
use Rattle.std.proofs.lemmas.List.{length-map, map-append}
use Rattle.std.proofs.lemmas.List.Elements.{All-append, All-cons, All-nil, Contains-append_left, Contains-append_right}
use Rattle.std.proofs.lemmas.Option.{slice_get-map, slice_get_cases, slice_get_past, slice_get_read, slice_get-get_or, get_or_from_slice_get, none-some, same_Some}
use Rattle.ux_base.specs.Outside.{Files, Seen}
use Rattle.ux_plan.specs.declared.stop.Stop.{Stop}
use Rattle.ux_plan.specs.declared.stop.Stop.TheVariants.{NoMemory}
use Rattle.ux_plan.specs.Plans.{Format, Reads, ReadsNext, StopsFile, StopsNext}
use Rattle.ux_grf.specs.declared.graph.Graph.{Graph}
use Rattle.ux_base.specs.Distinct.{GrowsBy, StandOnce}
use Rattle.ux_tokens.proofs.CutLemmas.{slice_get-push_cases}
use Rattle.ux_base.proofs.OnceLemmas.{each_once-once}
use Rattle.ux_boxes.specs.Boxes.{Drawn, names_of}
use Rattle.ux_boxes.specs.Refusing.{AreWhole, calls_in, calls_of, drawn, drawn_of}
use Rattle.ux_grammars.specs.Graphs.{MOST_GRAPHS}
use Rattle.ux_grammars.specs.Naming.{file_of, main_name, names_after, next_name}
use Rattle.ux_grammars.specs.Reading.{AreNamed, AreWholeGraphs, IsGiven, IsReading}
use Rattle.ux_grammars.proofs.TableLemmas.{each_once-has, name_stays, names_grow}

-- a graph given with its name
abbrev Given : Type 0
Given = String Global × Graph

module _ (word : List ℕ) (names : List (List ℕ)) (graphs : List Given)
    (reading : IsReading word names graphs) where
  same_count : length (drawn graphs) ≡ length graphs
  same_count = length-map graphs drawn_of

  -- the name at the place after the graphs is the next
  next_at : (name : List ℕ) → slice_get names (length graphs) ≡ Some name →
      next_name word (drawn graphs) ≡ Some name
  next_at name at =
      subst (λ n. slice_get (names_after word (drawn graphs)) n ≡ Some name) (sym same_count)
      (subst (λ (l : List (List ℕ)). slice_get l (length graphs) ≡ Some name) reading.table at)

  -- nothing is read after as many graphs as there are names
  pub none_left : length names ≤ length graphs → next_name word (drawn graphs) ≡ None
  none_left all =
      let table = ap (λ (l : List (List ℕ)). length l) reading.table in
      slice_get_past (names_after word (drawn graphs)) (length (drawn graphs))
      (omega (arith, same_count, table, all))

  -- The next graph, by its place, its name and its file.
  module _ {R : Type 0} (format : ℕ → List ℕ → Format R Drawn) (count : ℕ) (name file : List ℕ)
      (place : count ≡ length graphs) (at : slice_get names count ≡ Some name)
      (is : file ≡ file_of word count name) where
    same_place : count ≡ length (drawn graphs)
    same_place = place ∙ sym same_count

    asked : next_name word (drawn graphs) ≡ Some name
    asked = next_at name (subst (λ n. slice_get names n ≡ Some name) place at)

    -- its file stops the reading
    pub stops_next : (old new : Seen) (stop : Stop R) →
        StopsFile (format count name) file old new stop →
        StopsNext (next_name word) (file_of word) format (drawn graphs) old new stop
    stops_next old new stop stops = record {
      name = name;
      asked = asked;
      stops = subst (λ n. StopsFile (format n name) (file_of word n name) old new stop) same_place
          (subst (λ (f : List ℕ). StopsFile (format count name) f old new stop) is stops);
    }

    -- it is read
    pub reads_next : (told : Option Files) (graph : Given) (all : List Given) →
        Reads (format count name) file told (drawn_of graph) → all ≡ graphs ++ graph ∷ [] →
        ReadsNext (next_name word) (file_of word) format told (drawn graphs) (drawn all)
    reads_next told graph all has grown = record {
      name = name;
      asked = asked;
      value = drawn_of graph;
      has = subst (λ n. Reads (format n name) (file_of word n name) told (drawn_of graph))
          same_place
          (subst (λ (f : List ℕ). Reads (format count name) f told (drawn_of graph)) is has);
      grown = ap drawn grown ∙ map-append drawn_of graphs (graph ∷ []);
    }

  -- a graph and the names that it calls are added
  pub reading_more : (table : List (List ℕ)) (graph : Given) (all : List Given) (name : List ℕ)
      (count : ℕ) → count ≡ length graphs → slice_get names count ≡ Some name →
      string_bytes graph.0 ≡ name → IsGiven graph →
      GrowsBy (calls_of (drawn_of graph)) names table → all ≡ graphs ++ graph ∷ [] →
      IsReading word table all
  reading_more table graph all name count place at is given grown pushed =
      subst (λ (l : List Given). IsReading word table l) (sym pushed) (record {
        table =
            names_grow word (drawn graphs) (drawn_of graph) names table reading.table grown
            ∙ ap (names_after word) (sym more);
        named = λ k d here. by k d (slice_get-push_cases (drawn graphs) (drawn_of graph) k d
            (subst (λ (l : List Drawn). slice_get l k ≡ Some d) more here));
        given = All-append IsGiven graphs (graph ∷ []) reading.given
            (All-cons IsGiven graph [] given (All-nil IsGiven));
      })
    where
      more : drawn (graphs ++ graph ∷ []) ≡ drawn graphs ++ drawn_of graph ∷ []
      more = map-append drawn_of graphs (graph ∷ [])

      stays : (k : ℕ) (x : List ℕ) → slice_get names k ≡ Some x → slice_get table k ≡ Some x
      stays = name_stays word (drawn graphs) (drawn_of graph) names table reading.table grown

      by : (k : ℕ) (d : Drawn) → ((k < length (drawn graphs)) × (slice_get (drawn graphs) k ≡ Some d))
          ⊎ ((k ≡ length (drawn graphs)) × (drawn_of graph ≡ d)) → slice_get table k ≡ Some d.name
      by k d (inl old) = stays k d.name (reading.named k d old.1)
      by k d (inr new) =
          let here : k ≡ count = new.0 ∙ (same_count ∙ sym place) in
          let called : d.name ≡ name = sym (ap (λ (x : Drawn). x.name) new.1) ∙ is in
          stays k d.name (subst (λ n. slice_get names n ≡ Some d.name) (sym here)
          (at ∙ ap Some (sym called)))

-- out of memory stops the reading, as long as a name is left
pub memory_next : {R : Type 0} (word : List ℕ) (names : List (List ℕ)) (graphs : List Given)
    (format : ℕ → List ℕ → Format R Drawn) (old new : Seen) → IsReading word names graphs →
    length graphs < length names →
    StopsNext (next_name word) (file_of word) format (drawn graphs) old new NoMemory
memory_next word names graphs format old new reading left =
    let x = there names (length graphs) left in
    stops_next word names graphs reading format (length graphs) x.0
    (file_of word (length graphs) x.0) refl x.1 refl old new NoMemory tt
  where
    there : (xs : List (List ℕ)) (k : ℕ) → k < length xs → (x : List ℕ) × (slice_get xs k ≡ Some x)
    there [] k low = absurd (omega (arith, low))
    there (x ∷ xs) zero low = (x, refl)
    there (x ∷ xs) (suc k) low = there xs k (omega (arith, low))

-- at the start the table has the main graph's name
pub reading_begins : (word : List ℕ) (names : List (List ℕ)) (graphs : List Given) →
    graphs ≡ [] → names ≡ main_name word ∷ [] → IsReading word names graphs
reading_begins word names graphs none is =
    subst (IsReading word names) (sym none) (record {
      table = is;
      named = λ k graph at. absurd (none-some graph at);
      given = All-nil IsGiven;
    })

-- THE WHOLE GRAMMAR

-- Graphs that have the first of the names, of which none is left.
module _ (word : List ℕ) (graphs : List Drawn) (named : AreNamed (names_after word graphs) graphs)
    (all : length (names_after word graphs) ≤ length graphs) where
  -- each name is that of a graph
  graph_named : (name : List ℕ) → Contains (names_after word graphs) name →
      Contains (names_of graphs) name
  graph_named name (k, low, is) =
      let short : k < length graphs = omega (arith, low, all) in
      let there = slice_get_there graphs k short in
      let same : there.0.name ≡ name =
      same_Some there.0.name name (sym (named k there.0 there.1)
      ∙ slice_get_read (names_after word graphs) (length (names_after word graphs)) k name
      refl low (sym is)) in
      subst (Contains (names_of graphs)) same (
        k,
        rw (length-map graphs (λ (d : Drawn). d.name)) short,
        get_or_from_slice_get (names_of graphs) k there.0.name there.0.name
            (slice_get-map (λ (d : Drawn). d.name) graphs k
            ∙ ap (option_map (λ (d : Drawn). d.name)) there.1),
      )
    where
      slice_get_there : (xs : List Drawn) (k : ℕ) → k < length xs →
          (x : Drawn) × (slice_get xs k ≡ Some x)
      slice_get_there [] k low = absurd (omega (arith, low))
      slice_get_there (x ∷ xs) zero low = (x, refl)
      slice_get_there (x ∷ xs) (suc k) low = slice_get_there xs k (omega (arith, low))

  called_there : (graphs : List Drawn) (n : ℕ) (name : List ℕ) →
      Contains (calls_in (slice_get graphs n)) name → Contains (flat_map calls_of graphs) name
  called_there [] n name c = absurd (omega (arith, c.1))
  called_there (g ∷ graphs) zero name c =
      Contains-append_left (calls_of g) (flat_map calls_of graphs) name c
  called_there (g ∷ graphs) (suc n) name c =
      Contains-append_right (calls_of g) (flat_map calls_of graphs) name
      (called_there graphs n name c)

  -- every call is of a graph that is there
  grammar_whole : AreWhole graphs
  grammar_whole n name called =
      graph_named name (each_once-has (main_name word ∷ flat_map calls_of graphs) name
      (later (called_there graphs n name called)))
    where
      later : Contains (flat_map calls_of graphs) name →
          Contains (main_name word ∷ flat_map calls_of graphs) name
      later (k, low, is) = (suc k, omega (arith, low), is)

  -- no name stands twice
  grammar_once : StandOnce (names_of graphs)
  grammar_once i j name at_i at_j =
      let x = named_at i name at_i in
      let y = named_at j name at_j in
      each_once-once (main_name word ∷ flat_map calls_of graphs) i j name x y
    where
      named_at : (k : ℕ) (name : List ℕ) → slice_get (names_of graphs) k ≡ Some name →
          slice_get (names_after word graphs) k ≡ Some name
      named_at k name at = by (slice_get_cases graphs k).1
        where
          by : ((d : Drawn) × (k < length graphs) × (slice_get graphs k ≡ Some d)
              × (get_or graphs k d ≡ d))
              ⊎ ((length graphs ≤ k) × (slice_get graphs k ≡ None)) →
              slice_get (names_after word graphs) k ≡ Some name
          by (inl h) =
              let here : slice_get (names_of graphs) k ≡ Some h.0.name =
              slice_get-map (λ (d : Drawn). d.name) graphs k
              ∙ ap (option_map (λ (d : Drawn). d.name)) h.2 in
              named k h.0 h.2 ∙ (sym here ∙ at)
          by (inr past) =
              absurd (none-some name (sym (slice_get-map (λ (d : Drawn). d.name) graphs k
              ∙ ap (option_map (λ (d : Drawn). d.name)) past.1) ∙ at))

-- there is a main graph
grammar_some : (word : List ℕ) (graphs : List Drawn) →
    length (names_after word graphs) ≤ length graphs → 0 < length graphs
grammar_some word [] all = absurd (omega (arith, all))
grammar_some word (g ∷ graphs) all = omega arith

-- names that stand once differ pair by pair
given_distinct : (graphs : List Given) → StandOnce (names_of (drawn graphs)) →
    AllPairs (λ (a b : Given). string_bytes a.0 ≢ string_bytes b.0) graphs
given_distinct graphs once = λ i j d low short same.
    let P = λ (g : Given). string_bytes g.0 in
    let at : (k : ℕ) → k < length graphs →
    slice_get (names_of (drawn graphs)) k ≡ Some (P (get_or graphs k d)) =
    λ k below. slice_get-map (λ (x : Drawn). x.name) (drawn graphs) k
    ∙ (ap (option_map (λ (x : Drawn). x.name)) (slice_get-map drawn_of graphs k
    ∙ ap (option_map drawn_of) (slice_get-get_or graphs k d below))) in
    let one = once i j (P (get_or graphs i d)) (at i (omega (arith, low, short)))
    (at j short ∙ ap Some (sym same)) in
    omega (arith, low, one)

-- no name is left: the grammar is whole
pub reading_ends : (word : List ℕ) (names : List (List ℕ)) (graphs : List Given) →
    IsReading word names graphs → length graphs ≤ MOST_GRAPHS → length names ≤ length graphs →
    AreWholeGraphs graphs
reading_ends word names graphs reading few past =
    let len : length (drawn graphs) ≡ length graphs = length-map graphs drawn_of in
    let table = ap (λ (l : List (List ℕ)). length l) reading.table in
    let all : length (names_after word (drawn graphs)) ≤ length (drawn graphs) =
    omega (arith, len, table, past) in
    let named = subst (λ (l : List (List ℕ)). AreNamed l (drawn graphs)) reading.table
    reading.named in
    let some = grammar_some word (drawn graphs) all in
    record {
      some = omega (arith, len, some);
      few = few;
      given = reading.given;
      distinct = given_distinct graphs (grammar_once word (drawn graphs) named all);
      whole = grammar_whole word (drawn graphs) named all;
    }
