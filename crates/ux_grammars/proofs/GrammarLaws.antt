-- The formats of graphs are sound, so the plans of graphs and grammars keep the laws.
use Rattle.std.proofs.Common.{arith, Bool, true, false, ◌≡◌, ◌⊎◌, inl, inr, ℕ, ◌<◌, ◌≤◌, List, [], sym, ◌∙◌, ap}
use Rattle.ux_plan.specs.Laws.{IsSound, IsSoundTest, Laws}
use Rattle.ux_plan.specs.Plans.{Plan, gives, refusing, said_as, tests}
use Rattle.ux_plan.proofs.PlanLaws.{decoded_sound, laws_grows, laws_then, refusing_sound, said_sound}
use Rattle.ux_reasons.specs.declared.reason.Reason.{Reason}
use Rattle.ux_reasons.specs.declared.reason.Reason.TheVariants.{Decode, Fst2, Grf, Net, TooManyGraphs}
use Rattle.ux_grf.specs.declared.graph.GraphKind.{GraphKind}
use Rattle.ux_grf.specs.declared.graph.GraphKind.TheVariants.{Morphological, Plain}
use Rattle.ux_grf.specs.File.{IsGraphOf}
use Rattle.ux_grf.specs.declared.graph.Graph.{Graph}
use Rattle.ux_grf.specs.declared.graph.GrfBox.{GrfBox}
use Rattle.ux_boxes.specs.Boxes.{Drawn}
use Rattle.ux_net.specs.StateGraphs.{state_grammar}
use Rattle.ux_net.specs.declared.state_graph.StateGraph.{StateGraph}
use Rattle.ux_admission.specs.SoundGrammar.{IsSoundGrammar}
use Rattle.ux_fst2.specs.Reading.{SaysGraphs}
use Rattle.ux_compile.specs.Refusing.{IsCompilable}
use Rattle.ux_compile.proofs.RefusingLemmas.{compilable_not_refused}
use Rattle.ux_grammars.specs.Graphs.{IsNoFst2, IsNoGraph, MOST_GRAPHS, MOST_READS, RefusesCompiled, RefusesGrammar, boxes_plan, drawing_format, drawing_of, drawn_plan, fst2_format, grammar_plan, graph_format, graphs_plan, kind_plan, marked_plan, plan_by, states_plan}
use Rattle.ux_alphabet.specs.Letters.{Letters}
use Rattle.ux_grammars.specs.Naming.{file_of, is_compiled, next_name}
use Rattle.ux_grammars.specs.Sources.{of_boxes}
use Rattle.ux_fst2.proofs.TextLaws.{graphs_once, said_not_refused, text_refused_once}
use Rattle.ux_grammars.proofs.StatesRefusedOnce.{states_refused_once}
use Rattle.ux_states.proofs.NotRefused.{sound_not_refused}
use Rattle.ux_grammars.proofs.GrammarRefusedOnce.{grammar_error_once, named_not_memory}
use Rattle.ux_grammars.proofs.GraphRefusedOnce.{graph_refused_once}
use Rattle.ux_grammars.proofs.GraphRefusals.{drawn_not_refused, drawn_once}

same_drawn : (a b : Drawn) → a.name ≡ b.name → a.boxes ≡ b.boxes → a ≡ b
same_drawn a b names boxes =
    let D : List ℕ → List GrfBox → Drawn = λ name drawn. record { name = name; boxes = drawn } in
    ap (λ (name : List ℕ). D name a.boxes) names ∙ ap (D b.name) boxes

-- a text draws one graph, and is then not refused; one that is refused is so for one cause
pub kind_sound : (kind : GraphKind) → IsSound (drawing_of kind)
kind_sound kind =
    decoded_sound Decode (said_as Grf (IsGraphOf kind) (IsNoGraph kind))
    (said_sound Grf (IsGraphOf kind) (IsNoGraph kind) (λ text v error is refused.
    drawn_not_refused kind text v error is refused.not_memory refused.refuses) (drawn_once kind)
    (λ text error other a b. graph_refused_once kind text error other a.not_memory b.not_memory
    a.refuses b.refuses))

pub drawing_sound : IsSound drawing_format
drawing_sound = kind_sound Plain

-- the file of a graph after so many others is refused so
abbrev RefusedAfter : GraphKind → (count : ℕ) (file : List ℕ) → Reason → Type 0
RefusedAfter kind count file reason =
    ((count < MOST_GRAPHS) × (drawing_of kind).Refuses file reason)
    ⊎ ((MOST_GRAPHS ≤ count) × (reason ≡ TooManyGraphs))

no_refusal : (kind : GraphKind) (count : ℕ) (file : List ℕ) (graph : Graph) (reason : Reason) → count < MOST_GRAPHS →
    (drawing_of kind).Is file graph → RefusedAfter kind count file reason → ⊥
no_refusal kind count file graph reason few is (inl refused) =
    (kind_sound kind).excluded file graph reason is refused.1
no_refusal kind count file graph reason few is (inr many) = omega (arith, few, many.0)

one_refusal : (kind : GraphKind) (count : ℕ) (file : List ℕ) (reason other : Reason) →
    RefusedAfter kind count file reason → RefusedAfter kind count file other → reason ≡ other
one_refusal kind count file reason other (inl a) (inl b) =
    (kind_sound kind).one_reason file reason other a.1 b.1
one_refusal kind count file reason other (inl a) (inr b) = absurd (omega (arith, a.0, b.0))
one_refusal kind count file reason other (inr a) (inl b) = absurd (omega (arith, a.0, b.0))
one_refusal kind count file reason other (inr a) (inr b) = a.1 ∙ sym b.1

-- the file of the graph of a name after so many others draws one graph
pub graph_sound : (kind : GraphKind) (count : ℕ) (name : List ℕ) →
    IsSound (graph_format kind count name)
graph_sound kind count name = record {
  excluded = λ file v reason is refused.
      no_refusal kind count file (record { boxes = v.boxes }) reason is.0 is.2 refused;
  small = λ file v is large. large;
  refused_small = λ file reason refused large. large;
  one = λ file v w a b. same_drawn v w (a.1 ∙ sym b.1) (ap (λ (g : Graph). g.boxes)
      ((kind_sound kind).one file (record { boxes = v.boxes }) (record { boxes = w.boxes }) a.2 b.2));
  one_reason = λ file reason other a b. one_refusal kind count file reason other a b;
}

pub graphs_laws : (kind : GraphKind) (word : List ℕ) → Laws (graphs_plan kind word)
graphs_laws kind word =
    laws_grows (next_name word) (file_of word) (graph_format kind) (graph_sound kind) MOST_READS []

-- graphs that can be compiled are not refused
meaning : (word : List ℕ) (letters : Letters) (graphs : List Drawn) (file : List ℕ)
    (reason : Reason) → IsCompilable letters graphs →
    RefusesGrammar word letters graphs file reason → ⊥
meaning word letters graphs file reason compilable refused =
    named_not_memory word file refused.error refused.refuses.1
    (compilable_not_refused letters graphs refused.error compilable refused.refuses.0)

-- those that cannot are refused for one cause, which names one file
one_cause : (word : List ℕ) (letters : Letters) (graphs : List Drawn) (file other : List ℕ)
    (reason also : Reason) → RefusesGrammar word letters graphs file reason →
    RefusesGrammar word letters graphs other also → (file ≡ other) × (reason ≡ also)
one_cause word letters graphs file other reason also a b =
    let once = grammar_error_once word letters graphs a.error b.error file other a.refuses.0
    a.refuses.1 b.refuses.0 b.refuses.1 in
    (once.1, a.is ∙ (ap Net once.0 ∙ sym b.is))

grammar_test : (word : List ℕ) (letters : Letters) (graphs : List Drawn) →
    IsSoundTest (IsCompilable letters graphs) (refusing (RefusesGrammar word letters graphs))
grammar_test word letters graphs =
    refusing_sound (IsCompilable letters graphs) (RefusesGrammar word letters graphs)
    (meaning word letters graphs) (one_cause word letters graphs)

kind_laws : (kind : GraphKind) (word : List ℕ) (letters : Letters) →
    Laws (kind_plan kind word letters)
kind_laws kind word letters =
    laws_then (λ graphs. tests (IsCompilable letters graphs)
    (refusing (RefusesGrammar word letters graphs)) (gives graphs))
    (λ graphs. (grammar_test word letters graphs, tt)) (graphs_plan kind word)
    (graphs_laws kind word)

pub drawn_laws : (word : List ℕ) (letters : Letters) → Laws (drawn_plan word letters)
drawn_laws word letters = kind_laws Plain word letters

pub marked_laws : (word : List ℕ) (letters : Letters) → Laws (marked_plan word letters)
marked_laws word letters = kind_laws Morphological word letters

boxes_laws : (word : List ℕ) (letters : Letters) → Laws (boxes_plan word letters)
boxes_laws word letters =
    laws_then (λ graphs. gives (of_boxes graphs)) (λ graphs. tt) (drawn_plan word letters)
    (drawn_laws word letters)

-- a text says one compiled grammar, and is then not refused; one that is refused is so for one cause
fst2_sound : IsSound fst2_format
fst2_sound =
    decoded_sound Decode (said_as Fst2 SaysGraphs IsNoFst2)
    (said_sound Fst2 SaysGraphs IsNoFst2 said_not_refused graphs_once text_refused_once)

-- its graphs are refused for one cause, or have a meaning
states_test : (word : List ℕ) (graphs : List StateGraph) →
    IsSoundTest (IsSoundGrammar (state_grammar graphs)) (refusing (RefusesCompiled word graphs))
states_test word graphs =
    refusing_sound (IsSoundGrammar (state_grammar graphs)) (RefusesCompiled word graphs)
    (λ file reason sound refused. sound_not_refused graphs refused.1.error sound
    refused.1.refuses.1 refused.1.refuses.0)
    (λ file other reason also a b. (
      a.0 ∙ sym b.0,
      a.1.is ∙ (ap Net (states_refused_once graphs a.1.error b.1.error a.1.refuses.1 b.1.refuses.1
          a.1.refuses.0 b.1.refuses.0) ∙ sym b.1.is),
    ))

states_laws : (word : List ℕ) → Laws (states_plan word)
states_laws word = (fst2_sound, λ graphs. (states_test word graphs, tt))

-- the laws of one of two plans
laws_by : {R A : Type 0} (is : Bool) (so other : Plan R A) → Laws so → Laws other →
    Laws (plan_by is so other)
laws_by true so other one also = one
laws_by false so other one also = also

pub grammar_laws : (word : List ℕ) (letters : Letters) → Laws (grammar_plan word letters)
grammar_laws word letters =
    laws_by (is_compiled word) (states_plan word) (boxes_plan word letters) (states_laws word)
    (boxes_laws word letters)
