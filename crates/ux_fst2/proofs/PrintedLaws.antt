-- What is printed for graphs that can be spelled says these graphs again.
use Rattle.std.proofs.Common.{arith, ◌≡◌, ◌≢◌, ℕ, zero, suc, ◌<◌, ◌^◌, List, [], ◌∷◌, Bool, true, false, length, get_or, refl, sym, ◌∙◌, ap, subst, inl, inr, Option, Some, None, min}
use Rattle.std.specs.Prelude.{◌==◌, ◌⊎◌, All, AllPairs, if◌then◌else◌}
use Rattle.std.specs.List.{AllZip, flat_map}
use Rattle.std.proofs.lemmas.List.Elements.{All-append, All-cons, All-nil}
use Rattle.std.proofs.lemmas.List.{get_or_default}
use Rattle.std.proofs.lemmas.List.Concat.{flat_map-cons}
use Rattle.std.proofs.lemmas.Option.{get_or_from_slice_get, same_Some, slice_get_within}
use Rattle.ux_base.specs.Distinct.{each_once}
use Rattle.ux_base.proofs.FirstTextsLemmas.{each_once-AreFirsts}
use Rattle.ux_grf.specs.declared.item.Piece.{Piece}
use Rattle.ux_net.specs.Nets.{IsCalled, IsEdgeInside}
use Rattle.ux_net.specs.declared.label.Label.{Label}
use Rattle.ux_net.specs.declared.label.Label.TheVariants as labels
use Rattle.ux_net.specs.declared.state.Edge.{Edge}
use Rattle.ux_net.specs.declared.state.State.{State}
use Rattle.ux_net.specs.declared.state_graph.StateGraph.{StateGraph}
use Rattle.ux_fst2_file.specs.Fields.{MOST, SPACE, begins_with_field, fields_of, widened}
use Rattle.ux_fst2_file.specs.Lines.{END, IsEnd}
use Rattle.ux_fst2_file.proofs.PrintLaws.{printed_says}
use Rattle.ux_fst2_file.specs.Labels.{FitsEdge, FitsLabel, FitsState}
use Rattle.ux_fst2_file.specs.Printed as file
use Rattle.ux_fst2_file.specs.declared.labels.Limits.{Limits}
use Rattle.ux_fst2_file.specs.declared.file.Fst2Label.{Fst2Label}
use Rattle.ux_fst2_file.specs.declared.file.Fst2Label.TheVariants.{Tag, Call}
use Rattle.ux_fst2_file.specs.declared.file.Fst2Edge.{Fst2Edge}
use Rattle.ux_fst2_file.specs.declared.file.Fst2State.{Fst2State}
use Rattle.ux_fst2_file.specs.declared.file.Fst2Graph.{Fst2Graph}
use Rattle.ux_fst2_file.specs.declared.file.Fst2File.{Fst2File}
use Rattle.ux_fst2.specs.Files.{IsEdgeBy, IsFileOf, IsGraphBy, IsPrintedBy, IsStateBy, called, tag_unless, tags_of, tags_of_edge, tags_of_graph, tags_of_state}
use Rattle.ux_fst2.specs.Reading.{AreGoodBefore, AreTagsWhole, IsSaidBy, SaysGraphs, SaysLabel}
use Rattle.ux_fst2.specs.Spelling.{AreSpellable, IsSpellableBy, IsSpellableEdge, IsSpellableGraph, IsSpellableState, IsSpellableTag}
use Rattle.ux_fst2.specs.Tags.{AT, EMPTY_TAG, IsTag, PERCENT, mark_of, tag_text}
use Rattle.ux_fst2.proofs.SaidLaws.{said_back}
use Rattle.ux_fst2.proofs.TagLemmas.{empty_tag_says}
use Rattle.ux_fst2.proofs.Zips.{zip-length}

-- what holds of the second of each pair, and belongs together, tells what holds of the first
zip-tell : {A B : Type 0} (R : A → B → Type 0) (P : B → Type 0) (Q : A → Type 0)
    (S : A → B → Type 0) → ((x : A) (y : B) → R x y → P y → Q x × S x y) →
    (xs : List A) (ys : List B) → AllZip R xs ys → All P ys → All Q xs × AllZip S xs ys
zip-tell R P Q S law [] [] all each = (All-nil Q, tt)
zip-tell R P Q S law [] (y ∷ ys) all each = absurd all
zip-tell R P Q S law (x ∷ xs) [] all each = absurd all
zip-tell R P Q S law (x ∷ xs) (y ∷ ys) all each =
    let here = law x y all.0 (each 0 y (omega arith)) in
    let later = zip-tell R P Q S law xs ys all.1 (λ k d lt. each (suc k) d (omega (arith, lt))) in
    (All-cons Q x xs here.0 later.0, (here.1, later.1))

-- a label that calls a graph is that call
is_call : (label : Label) (graph : ℕ) → called label ≡ Some graph → label ≡ labels.Call graph
is_call labels.Empty graph is = cc
is_call (labels.CaseFolded text) graph is = cc
is_call (labels.CaseExact text) graph is = cc
is_call (labels.Mask mask) graph is = cc
is_call (labels.Brace text) graph is = cc
is_call labels.Space graph is = cc
is_call labels.NoSpace graph is = cc
is_call (labels.Begin name) graph is = cc
is_call (labels.End name) graph is = cc
is_call labels.Positive graph is = cc
is_call labels.Negative graph is = cc
is_call labels.ContextEnd graph is = cc
is_call labels.Cut graph is = cc
is_call (labels.Call other) graph is = let same : other ≡ graph = cc in ap labels.Call same

-- the tag of a label and an output that some text says does so too
spelled_says : (label : Label) (output : List Piece) → IsSpellableTag label output →
    IsTag (tag_text label output) label output
spelled_says label output is = said_back label output is.said

module _ (tags : List (List ℕ)) (count : ℕ) (fits : count < 65536) where
  -- what the edges of a graph of so many states may name
  abbrev limits : ℕ → Limits
  limits states = record { tags = min (length tags) MOST; graphs = count; states = states }

  abbrev IsGoodEdge : ℕ → Fst2Edge → Type 0
  IsGoodEdge states edge = file.IsSmallEdge edge × FitsEdge (limits states) edge

  -- a label
  label_tells : (states : ℕ) (number : Fst2Label) (label : Label) (output : List Piece) →
      IsPrintedBy tags number label output → IsCalled count label →
      IsSpellableBy (called label) label output →
      file.IsSmallLabel number × FitsLabel (limits states) number
      × IsSaidBy tags number label output
  label_tells states (Tag tag) label output printed inside spelled =
      let spells = rw printed.0 at spelled in
      let within = slice_get_within tags tag (tag_text label output) printed.1 in (
        omega (arith, printed.2),
        omega (arith, printed.2, within),
        (tag_text label output, printed.1, spelled_says label output spells),
      )
  label_tells states (Call graph) label output printed inside spelled =
      let nothing : output ≡ [] = rw printed at spelled in
      let call = is_call label graph printed in
      let here : IsCalled count (labels.Call graph) =
      subst (λ (l : Label). IsCalled count l) call inside in
      (omega (arith, here.1, fits), here, (call, nothing))

  -- an edge
  edge_tells : (states : ℕ) → states < 2 ^ 32 → (edge : Fst2Edge) (told : Edge) →
      IsEdgeBy (IsPrintedBy tags) edge told →
      IsSpellableEdge told × IsEdgeInside count states told →
      IsGoodEdge states edge × IsEdgeBy (IsSaidBy tags) edge told
  edge_tells states few edge told by is =
      let label = label_tells states edge.label told.label told.output by.label is.1.called is.0 in
      let target = is.1.target in (
        (
          (label.0, omega (arith, by.target, target, few)),
          (label.1, omega (arith, by.target, target)),
        ),
        record { label = label.2; target = by.target },
      )

  -- a state
  state_tells : (states : ℕ) → states < 2 ^ 32 → (state : Fst2State) (told : State) →
      IsStateBy (IsPrintedBy tags) state told → IsSpellableState count states told →
      (file.IsSpellableState state × FitsState (limits states) state)
      × IsStateBy (IsSaidBy tags) state told
  state_tells states few state told by is =
      let edges = zip-tell (IsEdgeBy (IsPrintedBy tags))
      (λ edge. IsSpellableEdge edge × IsEdgeInside count states edge) (IsGoodEdge states)
      (IsEdgeBy (IsSaidBy tags)) (edge_tells states few) state.edges told.edges by.edges
      (λ k d lt. (is.spelled k d lt, is.inside k d lt)) in
      let many = zip-length (IsEdgeBy (IsPrintedBy tags)) state.edges told.edges by.edges in (
        (
          record { few = omega (arith, many, is.few); small = λ k d lt. (edges.0 k d lt).0 },
          λ k d lt. (edges.0 k d lt).1,
        ),
        record { ends = by.ends; edges = edges.1 },
      )

  -- a graph
  graph_tells : (graph : Fst2Graph) (told : StateGraph) → IsGraphBy (IsPrintedBy tags) graph told →
      IsSpellableGraph count told →
      (file.IsSpellableGraph graph
      × All (FitsState (limits (length graph.states))) graph.states)
      × IsGraphBy (IsSaidBy tags) graph told
  graph_tells graph told by is =
      let n = length told.states in
      let states = zip-tell (IsStateBy (IsPrintedBy tags)) (IsSpellableState count n)
      (λ state. file.IsSpellableState state × FitsState (limits n) state)
      (IsStateBy (IsSaidBy tags)) (state_tells n is.few) graph.states told.states by.are is.each in
      let many = zip-length (IsStateBy (IsPrintedBy tags)) graph.states told.states by.are in (
        (
          record {
            name = subst file.IsName (sym by.named) is.name_is;
            some = omega (arith, many, is.some);
            few = omega (arith, many, is.few);
            states = λ k d lt. (states.0 k d lt).0;
          },
          subst (λ (m : ℕ). All (FitsState (limits m)) graph.states) (sym many)
              (λ k d lt. (states.0 k d lt).1),
        ),
        record { named = by.named; are = states.1 },
      )

-- the members at one place belong together
zip-get : {A B : Type 0} (R : A → B → Type 0) (xs : List A) (ys : List B) (i : ℕ) (d : A) (e : B) →
    AllZip R xs ys → i < length xs → R (get_or xs i d) (get_or ys i e)
zip-get R [] ys i d e all lt = absurd (omega (arith, lt))
zip-get R (x ∷ xs) [] i d e all lt = absurd all
zip-get R (x ∷ xs) (y ∷ ys) zero d e all lt = all.0
zip-get R (x ∷ xs) (y ∷ ys) (suc i) d e all lt = zip-get R xs ys i d e all.1 (omega (arith, lt))

-- names that differ do so in the file
names_differ : (Bears : Fst2Label → Label → List Piece → Type 0) (fs : List Fst2Graph)
    (graphs : List StateGraph) → AllZip (IsGraphBy Bears) fs graphs →
    AllPairs (λ (one other : StateGraph). one.name ≢ other.name) graphs →
    AllPairs (λ (one other : Fst2Graph). one.name ≢ other.name) fs
names_differ Bears fs graphs all distinct i j d below lt same =
    let e : StateGraph = record { name = []; states = [] } in
    let many = zip-length (IsGraphBy Bears) fs graphs all in
    let one = zip-get (IsGraphBy Bears) fs graphs i d e all (omega (arith, below, lt)) in
    let other = zip-get (IsGraphBy Bears) fs graphs j d e all lt in
    distinct i j e below (omega (arith, lt, many)) (sym one.named ∙ same ∙ other.named)

-- a tag of a label stands on a line, and is no `f`
abbrev IsGoodText : List ℕ → Type 0
IsGoodText text = SaysLabel text × file.IsSpellableTag text

-- a field that is `f` begins with it
begins_with_f : (b : ℕ) (text : List ℕ) → (b == SPACE) ≡ false → fields_of (b ∷ text) ≡ END ∷ [] →
    b ≡ 102
begins_with_f b text solid are =
    by (begins_with_field text) (fields_of text) (rw solid at are)
  where
    by : (q : Bool) (fs : List (List ℕ)) → (if q then widened b fs else (b ∷ []) ∷ fs) ≡ END ∷ [] →
        b ≡ 102
    by true [] e = cc
    by true (f ∷ fs) e = cc
    by false fs e = cc

mark_is : (label : Label) → (mark_of label ≡ PERCENT) ⊎ (mark_of label ≡ AT)
mark_is labels.Empty = inl refl
mark_is (labels.CaseFolded text) = inl refl
mark_is (labels.CaseExact text) = inr refl
mark_is (labels.Mask mask) = inl refl
mark_is (labels.Brace text) = inl refl
mark_is labels.Space = inl refl
mark_is labels.NoSpace = inl refl
mark_is (labels.Begin name) = inl refl
mark_is (labels.End name) = inl refl
mark_is labels.Positive = inl refl
mark_is labels.Negative = inl refl
mark_is labels.ContextEnd = inl refl
mark_is labels.Cut = inl refl
mark_is (labels.Call graph) = inl refl

-- so a tag isn't `f`
marked_no_end : (b : ℕ) (text : List ℕ) → (b ≡ PERCENT) ⊎ (b ≡ AT) → IsEnd (b ∷ text) → ⊥
marked_no_end b text (inl is) end =
    let f = begins_with_f PERCENT text refl
    (subst (λ (m : ℕ). fields_of (m ∷ text) ≡ END ∷ []) is end.are) in omega (arith, f)
marked_no_end b text (inr is) end =
    let f = begins_with_f AT text refl
    (subst (λ (m : ℕ). fields_of (m ∷ text) ≡ END ∷ []) is end.are) in omega (arith, f)

tag_good : (label : Label) (output : List Piece) → IsSpellableTag label output →
    IsGoodText (tag_text label output)
tag_good label output is = (
  (label, output, spelled_says label output is),
  record { other = marked_no_end (mark_of label) _ (mark_is label); line = is.line },
)

empty_good : IsGoodText EMPTY_TAG
empty_good = (
  (labels.Empty, [], empty_tag_says EMPTY_TAG refl),
  record {
    other = marked_no_end PERCENT _ (inl refl);
    line = record { no_feed = refl; no_return = λ e. omega (arith, e) };
  },
)

-- what holds of all that is made of each holds of all
all_flat : {A : Type 0} (f : A → List (List ℕ)) (P : A → Type 0) (Q : List ℕ → Type 0) →
    ((x : A) → P x → All Q (f x)) → (xs : List A) → All P xs → All Q (flat_map f xs)
all_flat f P Q law [] each = All-nil Q
all_flat f P Q law (x ∷ xs) each =
    subst (All Q) (sym (flat_map-cons f x xs))
    (All-append Q (f x) (flat_map f xs) (law x (each 0 x (omega arith)))
    (all_flat f P Q law xs (λ k d lt. each (suc k) d (omega (arith, lt)))))

edge_good : (calls : Option ℕ) (label : Label) (output : List Piece) →
    IsSpellableBy calls label output → All IsGoodText (tag_unless calls label output)
edge_good None label output is =
    All-cons IsGoodText (tag_text label output) [] (tag_good label output is) (All-nil IsGoodText)
edge_good (Some graph) label output is = All-nil IsGoodText

-- the tags of graphs that can be printed
used_good : (count : ℕ) (graphs : List StateGraph) → All (IsSpellableGraph count) graphs →
    All IsGoodText (flat_map tags_of_graph graphs)
used_good count graphs each =
    all_flat tags_of_graph (IsSpellableGraph count) IsGoodText
    (λ graph is. all_flat tags_of_state (IsSpellableState count (length graph.states)) IsGoodText
    (λ state here. all_flat tags_of_edge IsSpellableEdge IsGoodText
    (λ edge fine. edge_good (called edge.label) edge.label edge.output fine)
    state.edges here.spelled)
    graph.states is.each)
    graphs each

-- the same of each text once
all_once : (Q : List ℕ → Type 0) (texts : List (List ℕ)) → All Q texts → All Q (each_once texts)
all_once Q texts all k d lt =
    let once = each_once texts in
    let x = get_or once k d in
    let has = ((each_once-AreFirsts texts).same x).0 (k, lt, get_or_default once k x d lt) in
    subst Q has.2 (all has.0 x has.1)

tags_good : (first : List ℕ) (used : List (List ℕ)) → first ≡ EMPTY_TAG →
    All IsGoodText (each_once (first ∷ used)) → AreTagsWhole (each_once (first ∷ used)) true
tags_good first used is all =
    record { some = omega arith; good = good; ended = refl }
  where
    good : AreGoodBefore (length (each_once (first ∷ used))) (each_once (first ∷ used))
    good zero text lt at = sym (same_Some first text at) ∙ is
    good (suc k) text lt at =
        subst SaysLabel (get_or_from_slice_get (each_once (first ∷ used)) (suc k) text text at)
        (all (suc k) text lt).0

-- what is printed says the graphs
pub printed_says_graphs : (graphs : List StateGraph) (f : Fst2File) → IsFileOf graphs f →
    AreSpellable graphs → SaysGraphs (file.file_text f) graphs
printed_says_graphs graphs f is spelled =
    let count = length graphs in
    let tells = zip-tell (IsGraphBy (IsPrintedBy f.tags)) (IsSpellableGraph count)
    (λ g. file.IsSpellableGraph g
    × All (FitsState (limits f.tags count spelled.fits (length g.states))) g.states)
    (IsGraphBy (IsSaidBy f.tags)) (graph_tells f.tags count spelled.fits) f.graphs graphs is.are
    spelled.each in
    let many : length f.graphs ≡ count =
    zip-length (IsGraphBy (IsPrintedBy f.tags)) f.graphs graphs is.are in
    let good : All IsGoodText (tags_of graphs) =
    all_once IsGoodText (EMPTY_TAG ∷ flat_map tags_of_graph graphs)
    (All-cons IsGoodText EMPTY_TAG (flat_map tags_of_graph graphs) empty_good
    (used_good count graphs spelled.each)) in
    let texts : All IsGoodText f.tags = subst (All IsGoodText) (sym is.tagged) good in
    record {
      file = f;
      says = printed_says f (record {
        some = omega (arith, many, spelled.some);
        fits = omega (arith, many, spelled.fits);
        graphs = λ k d lt. (tells.0 k d lt).0;
        names = names_differ (IsPrintedBy f.tags) f.graphs graphs is.are spelled.distinct;
        tags = λ k d lt. (texts k d lt).1;
      });
      tags = subst (λ (ts : List (List ℕ)). AreTagsWhole ts true) (sym is.tagged)
          (tags_good EMPTY_TAG (flat_map tags_of_graph graphs) refl good);
      fit = λ k d lt. subst (λ (m : ℕ). All (FitsState (record {
        tags = min (length f.tags) MOST;
        graphs = m;
        states = length (get_or f.graphs k d).states;
      })) (get_or f.graphs k d).states) (sym many) (tells.0 k d lt).1;
      are = tells.1;
    }
