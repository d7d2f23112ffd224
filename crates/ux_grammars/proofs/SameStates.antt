-- A grammar has one list of states: what it is compiled to, or what was told.
use Rattle.std.proofs.Common.{arith, ◌≡◌, ℕ, zero, suc, ◌+◌, ◌<◌, Bool, false, List, [], ◌∷◌, Some, refl, sym, ap, ◌∙◌, subst, length, map, get_or}
use Rattle.std.specs.Prelude.{slice_get}
use Rattle.std.specs.List.{AllZip}
use Rattle.std.proofs.lemmas.List.{ext_get_or}
use Rattle.std.proofs.lemmas.Option.{slice_get-get_or}
use Rattle.ux_base.specs.Distinct.{StandOnce}
use Rattle.ux_alphabet.specs.Letters.{Letters}
use Rattle.ux_grf.specs.declared.graph.GrfBox.{GrfBox}
use Rattle.ux_grf.specs.declared.item.Item.{Item}
use Rattle.ux_grf.specs.declared.item.Piece.{Piece}
use Rattle.ux_net.specs.Whole.{told_graph, whole_from, whole_states}
use Rattle.ux_net.specs.declared.label.Label.{Label}
use Rattle.ux_net.specs.declared.net_graph.NetGraph.{NetGraph}
use Rattle.ux_net.specs.declared.net_graph.UnmetState.{UnmetState}
use Rattle.ux_net.specs.declared.state.State.{State}
use Rattle.ux_net.specs.declared.state_graph.StateGraph.{StateGraph}
use Rattle.ux_boxes.specs.Boxes.{Drawn, IsSplitLine, boxes_of, lines_at, names_of}
use Rattle.ux_boxes.specs.Places.{ArePlaces, label_lines, lines_in, output_in_place, reached_in, targets_in}
use Rattle.ux_boxes.specs.declared.place.Place.{Place}
use Rattle.ux_boxes.proofs.SameGraph.{split_line_same}
use Rattle.ux_compile.specs.Compiling.{IsConstructed, IsConstructedOf}
use Rattle.ux_compile.specs.Construct.{states_of}
use Rattle.ux_grammars.specs.Reading.{AreStatesOfBoxes, HasStatesOf}
use Rattle.ux_grammars.specs.Sources.{Source, of_boxes, of_states}
use Rattle.ux_fst2.proofs.TextLaws.{each_once, same_graph}
use Rattle.ux_grammars.proofs.GrammarRefusedOnce.{one_name}

same_place : (a b : Place) → a.reached ≡ b.reached → a.output ≡ b.output → a.lines ≡ b.lines →
    a.targets ≡ b.targets → a ≡ b
same_place a b reached output lines targets =
    let P : Bool → List Piece → List (List Label) → List ℕ → Place =
    λ r o l t. record { reached = r; output = o; lines = l; targets = t } in
    ap (λ (r : Bool). P r a.output a.lines a.targets) reached
    ∙ (ap (λ (o : List Piece). P b.reached o a.lines a.targets) output
    ∙ (ap (λ (l : List (List Label)). P b.reached b.output l a.targets) lines
    ∙ ap (P b.reached b.output b.lines) targets))

-- boxes have one list of places
module _ (letters : Letters) (names : List (List ℕ)) (apart : StandOnce names)
    (boxes : List GrfBox) (a b : List Place) (are : ArePlaces letters names boxes a)
    (also : ArePlaces letters names boxes b) where
  lines_same : (n : ℕ) → label_lines a n ≡ label_lines b n
  lines_same n =
      each_once (IsSplitLine letters names) (λ line. split_line_same letters names apart line)
      (lines_at boxes n) (label_lines a n) (label_lines b n) (are.lines n) (also.lines n)

  lengths : length a ≡ length b
  lengths = are.len ∙ sym also.len

  at : (d : Place) (n : ℕ) → n < length a → get_or a n d ≡ get_or b n d
  at d n within =
      let here = slice_get-get_or a n d within in
      let there = slice_get-get_or b n d (subst (λ l. n < l) lengths within) in
      same_place (get_or a n d) (get_or b n d)
      (sym (ap reached_in here) ∙ ((are.reached n ∙ sym (also.reached n)) ∙ ap reached_in there))
      (sym (ap output_in_place here)
      ∙ ((are.outputs n ∙ sym (also.outputs n)) ∙ ap output_in_place there))
      (sym (ap lines_in here) ∙ (lines_same n ∙ ap lines_in there))
      (sym (ap targets_in here) ∙ ((are.targets n ∙ sym (also.targets n)) ∙ ap targets_in there))

  places_same : a ≡ b
  places_same =
      let none : Place = record { reached = false; output = []; lines = []; targets = [] } in
      ext_get_or none a b lengths (at none)

-- a drawn graph is compiled to one list of states
module _ (letters : Letters) (graphs : List Drawn) (apart : StandOnce (names_of graphs)) where
  abbrev AreAlike : NetGraph → NetGraph → Type 0
  AreAlike a b = (a.name ≡ b.name) × (a.states ≡ b.states) × (a.unmet ≡ b.unmet)

  graph_alike : (g : ℕ) (a b : NetGraph) → IsConstructedOf letters graphs g a →
      IsConstructedOf letters graphs g b → AreAlike a b
  graph_alike g a b one other =
      let places = places_same letters (names_of graphs) apart (boxes_of graphs g) one.places
      other.places one.of_boxes other.of_boxes in (
        one_name (names_of graphs) g a.name b.name one.name other.name,
        one.states ∙ (ap states_of places ∙ sym other.states),
        one.aside ∙ sym other.aside,
      )

  all_alike : (a b : List NetGraph) → length a ≡ length b →
      ((n : ℕ) (x y : NetGraph) → slice_get a n ≡ Some x → slice_get b n ≡ Some y →
      AreAlike x y) → AllZip AreAlike a b
  all_alike [] [] lengths each = tt
  all_alike [] (y ∷ b) lengths each = absurd (omega (arith, lengths))
  all_alike (x ∷ a) [] lengths each = absurd (omega (arith, lengths))
  all_alike (x ∷ a) (y ∷ b) lengths each = (
    each 0 x y refl refl,
    all_alike a b (omega (arith, lengths)) (λ n v w here there. each (suc n) v w here there),
  )

  constructed_alike : (a b : List NetGraph) → IsConstructed letters graphs a →
      IsConstructed letters graphs b → AllZip AreAlike a b
  constructed_alike a b one other =
      all_alike a b (one.count ∙ sym other.count) (λ n x y here there.
      graph_alike (suc n) x y (one.each (suc n) x here) (other.each (suc n) y there))

  told_same : (a b : List NetGraph) → AllZip AreAlike a b → map told_graph a ≡ map told_graph b
  told_same [] [] each = refl
  told_same [] (y ∷ b) each = absurd each
  told_same (x ∷ a) [] each = absurd each
  told_same (x ∷ a) (y ∷ b) each =
      let whole : whole_states x ≡ whole_states y =
      ap (λ (u : List UnmetState). whole_from u 0 x.states) each.0.2
      ∙ ap (λ (s : List State). whole_from y.unmet 0 s) each.0.1 in
      ap (λ (t : StateGraph). t ∷ map told_graph a)
      (same_graph (told_graph x) (told_graph y) each.0.0 whole)
      ∙ ap (λ (ts : List StateGraph). told_graph y ∷ ts) (told_same a b each.1)

-- the nets of drawn graphs have the same names and states
pub boxes_alike : (letters : Letters) (graphs : List Drawn) (a b : List NetGraph) →
    AreStatesOfBoxes letters graphs a → AreStatesOfBoxes letters graphs b →
    AllZip (λ (x y : NetGraph). (x.name ≡ y.name) × (x.states ≡ y.states) × (x.unmet ≡ y.unmet)) a b
boxes_alike letters graphs a b one other =
    constructed_alike letters graphs one.apart a b one.constructed other.constructed

-- the nets of a grammar have the same states
pub states_same : (letters : Letters) (source : Source) (a b : List NetGraph) →
    HasStatesOf letters source a → HasStatesOf letters source b →
    map told_graph a ≡ map told_graph b
states_same letters (of_boxes graphs) a b one other =
    told_same letters graphs one.apart a b (boxes_alike letters graphs a b one other)
states_same letters (of_states graphs) a b one other = one ∙ sym other
