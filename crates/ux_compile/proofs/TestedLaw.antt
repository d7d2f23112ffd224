-- What follows of graphs that pass the tests before that of loops: what is built of their places is
-- the net of their boxes.
use Rattle.std.proofs.Common.{arith, ◌≡◌, ◌+◌, ◌*◌, ◌<◌, ◌≤◌, ℕ, List, [], ◌∷◌, ◌++◌, get_or, length, map, take, sym, ◌∙◌, ap, subst}
use Rattle.std.specs.Prelude.{All, string_bytes}
use Rattle.std.proofs.lemmas.List.{length-map, map-append}
use Rattle.ux_alphabet.specs.Letters.{Letters}
use Rattle.ux_grf.specs.Size.{size_of}
use Rattle.ux_grf.specs.WellFormed.{IsWellFormed}
use Rattle.ux_boxes.specs.declared.error.NetError.{NetError}
use Rattle.ux_net.specs.declared.net_graph.NetGraph.{NetGraph}
use Rattle.ux_boxes.specs.declared.place.Place.{Place}
use Rattle.ux_boxes.specs.Boxes.{Drawn, box_grammar, names_of}
use Rattle.ux_compile.specs.Compiling.{AreTested, IsBuiltOf, IsConstructed, RefusesNet}
use Rattle.ux_compile.specs.Construct.{AreFit}
use Rattle.ux_boxes.specs.Fit.{IsFit, HasLinesWhereReached}
use Rattle.ux_net.specs.Nets.{net_grammar}
use Rattle.ux_net.specs.StateGraphs.{state_grammar}
use Rattle.ux_net.specs.Whole.{told_graph}
use Rattle.ux_boxes.specs.Numbers.{all_places}
use Rattle.ux_boxes.specs.Places.{place_grammar}
use Rattle.ux_boxes.specs.Refusing.{drawn, drawn_of}
use Rattle.ux_compile.specs.Refusing.{IsCompilable, Refuses}
use Rattle.ux_net.specs.Sound.{IsSound}
use Rattle.ux_admission.specs.SoundGrammar.{IsSoundGrammar}
use Rattle.ux_net.specs.Words.{SayTheSame}
use Rattle.ux_compile.proofs.AllFitLemmas.{all_fit, all_reached, all_few, all_places_few, all_are_fit, each_is_fit, calls_inside}
use Rattle.ux_compile.proofs.BuiltLemmas.{constructed, boxes_same}
use Rattle.ux_compile.proofs.ClosedLaw.{built_is_admitted}
use Rattle.ux_compile.proofs.SoundLaw.{built_is_sound}
use Rattle.ux_boxes.proofs.MissingLemmas.{Differ, stand_once}
use Rattle.ux_boxes.proofs.RefusingLemmas.{Given}
use Rattle.ux_compile.proofs.SplitLemmas.{boxes_admissible, boxes_sound, refused}
use Rattle.ux_boxes.proofs.SplittingLemmas.{take-next}

-- the names of the graphs up to a place, and the one there
pub names_next : (graphs : List Given) (i : ℕ) (graph : Given) → i < length graphs →
    graph ≡ get_or graphs i graph →
    names_of (drawn (take i graphs)) ++ string_bytes graph.0 ∷ []
    ≡ names_of (drawn (take (i + 1) graphs))
names_next graphs i graph within is =
    sym (map-append (λ (d : Drawn). d.name) (drawn (take i graphs)) (drawn_of graph ∷ []))
    ∙ (ap (λ (l : List Drawn). names_of l) (sym (map-append drawn_of (take i graphs) (graph ∷ [])))
    ∙ ap (λ (l : List Given). names_of (drawn l)) (take-next graphs i graph within is))

-- graphs and places that are handed on stay tested
pub handed : (alphabet : Letters) (seen graphs : List Given) (made places : List (List Place)) →
    seen ≡ graphs → places ≡ made → AreTested alphabet (drawn seen) made →
    AreTested alphabet (drawn graphs) places
handed alphabet seen graphs made places same_graphs same_places tested =
    subst (λ (l : List (List Place)). AreTested alphabet (drawn graphs) l) (sym same_places)
    (subst (λ (l : List Given). AreTested alphabet (drawn l) made) same_graphs tested)

module _ (alphabet : Letters) (graphs : List Given)
    (formed : All (λ (graph : Given). IsWellFormed graph.1) graphs)
    (small : All (λ (graph : Given). size_of graph.1 < 4294967296) graphs)
    (differ : Differ graphs) (places : List (List Place))
    (tested : AreTested alphabet (drawn graphs) places) where
  -- the places of graphs that were tested are fit
  pub tested_fit : All (IsFit (length places)) places
  tested_fit = all_fit alphabet graphs places formed small tested.split

  -- they have lines where they are reached
  pub tested_reached : All HasLinesWhereReached places
  tested_reached = all_reached alphabet graphs places formed small tested.split

  -- they are few
  pub tested_few : All (λ (p : List Place). length p ≤ 65535) places
  tested_few = all_few alphabet graphs places formed small tested.split

  -- states can be made of them
  pub tested_are_fit : All AreFit places
  tested_are_fit = all_are_fit alphabet graphs places formed small tested.split

  -- there are as many as graphs
  pub tested_count : length places ≡ length graphs
  tested_count = tested.split.count ∙ length-map graphs drawn_of

  -- and where they are sound the graphs are compilable
  pub tested_compilable : IsSoundGrammar (place_grammar places) →
      IsCompilable alphabet (drawn graphs)
  tested_compilable sound = record {
    whole = tested.whole;
    masked = tested.masked;
    contexts = boxes_sound alphabet (drawn graphs) places (stand_once graphs differ) tested.split
        sound.contexts.closed sound.contexts.no_recursion;
    admissible = boxes_admissible alphabet (drawn graphs) places (stand_once graphs differ)
        tested.split sound.admissible;
  }

  module _ (net : List NetGraph) (built : IsBuiltOf (names_of (drawn graphs)) places net) where
    pub tested_constructed : IsConstructed alphabet (drawn graphs) net
    tested_constructed =
        constructed alphabet (drawn graphs) places built.rows built.ranks built.free net tested.split
        built.built built.named

    pub tested_same : SayTheSame (box_grammar alphabet (drawn graphs)) (net_grammar net)
    tested_same =
        boxes_same places built.rows built.ranks built.free net
        (each_is_fit alphabet graphs places formed small tested.split) built.built
        alphabet (drawn graphs) (stand_once graphs differ) tested.split

    pub tested_sound : 0 < length graphs → length graphs ≤ 65535 → IsSound net
    tested_sound some few =
        let count = tested_count in
        let all = all_places_few places tested_few in
        built_is_sound places built.rows built.ranks built.free net built.levels
        (each_is_fit alphabet graphs places formed small tested.split)
        (calls_inside places tested_fit) built.ranked built.built built.closing built.leveled
        built.closed (omega (arith, count, some)) (omega (arith, count, few))
        (let most : all_places places ≤ 65535 * 65535 = omega (arith, all, count, few) in
        omega (arith, most))

    pub tested_admitted : 0 < length graphs → length graphs ≤ 65535 →
        IsSoundGrammar (state_grammar (map told_graph net))
    tested_admitted some few =
        built_is_admitted places built.rows built.ranks built.free net
        (each_is_fit alphabet graphs places formed small tested.split) built.built built.closed
        (tested_sound some few)

  -- what refuses them refuses the graphs
  pub tested_refused : (error : NetError) →
      RefusesNet (names_of (drawn graphs)) places error →
      Refuses alphabet (drawn graphs) error
  tested_refused error refuses =
      refused alphabet (drawn graphs) places (stand_once graphs differ) tested.split error
      tested.whole tested.masked refuses
