-- Every graph that is read is well formed.
use Rattle.std.proofs.Common.{arith, ◌≡◌, ◌≢◌, ℕ, ◌<◌, ◌≤◌, List, [], ◌∷◌, refl, sym, ◌∙◌, ap, subst, Bool, true, false, ◌&&◌, ◌↔◌, length, get_or, map, Option, None, Some, cond, eqb, leb}
use Rattle.std.specs.Prelude.{All, AllPairs}
use Rattle.std.proofs.lemmas.List.{length-map, get_or-map, ext_get_or}
use Rattle.std.proofs.lemmas.List.Elements.{All-nil, Contains-get_or}
use Rattle.std.proofs.lemmas.Bool.{leb-true}
use Rattle.ux_grf.specs.declared.graph.GraphKind.{GraphKind}
use Rattle.ux_grf.specs.declared.graph.Graph.{Graph}
use Rattle.ux_grf.specs.declared.graph.GrfBox.{GrfBox}
use Rattle.ux_grf.specs.declared.words.Gap.TheVariants.{Spaces}
use Rattle.ux_grf.specs.Words.{words_of}
use Rattle.ux_grf.specs.Numbers.{is_decimal, value_of}
use Rattle.ux_grf.specs.Header.{count_in}
use Rattle.ux_grf.specs.BoxLine.{BoxText}
use Rattle.ux_grf.specs.Boxes.{box_at, is_good, text_at, IsTextOf}
use Rattle.ux_grf.specs.Reached.{ways_of, Reached}
use Rattle.ux_grf.specs.Content.{is_read, IsBoxOf}
use Rattle.ux_grf.specs.File.{Draws, IsGraphOf}
use Rattle.ux_grf.specs.WellFormed.{box_of_graph, ways_of_graph, IsFilled, IsWellFormedBox, IsWellFormed}
use Rattle.ux_grf.proofs.NumbersLemmas.{and_left, and_right}
use Rattle.ux_grf.proofs.ReadLemmas.{targets_inside}
use Rattle.ux_grf.proofs.FilledLemmas.{good_lines}

-- no target is told twice
once : (said : Option BoxText) (text : BoxText) → IsTextOf said text →
    AllPairs (λ s t. s ≢ t) text.targets
once None text tells = absurd tells
once (Some said) text tells = tells.1.once

-- a box of good targets, with what its content writes
box_well_formed : {kind : GraphKind} (count node : ℕ) (said : Option BoxText) (text : BoxText) (b : GrfBox) →
    is_good count said ≡ true → IsTextOf said text → IsBoxOf kind text node b →
    IsWellFormedBox count node b
box_well_formed count node said text b good tells is = record {
  inside = subst (All (λ t. t < count)) (sym is.targets)
      (λ k d lt. targets_inside count said text good tells (get_or text.targets k d)
      (Contains-get_or text.targets k d lt));
  once = subst (AllPairs (λ s t. s ≢ t)) (sym is.targets) (once said text tells);
  bare = is.bare;
  lined = λ e. (good_lines (is.read e).lines).some;
  filled = filled (is_read node b.reached) refl;
}
  where
    filled : (reads : Bool) → is_read node b.reached ≡ reads → All IsFilled b.lines
    filled true e = (good_lines (is.read e).lines).filled
    filled false e = subst (All IsFilled) (sym (is.bare e).0) (All-nil IsFilled)

-- the number of boxes is in its range
some_where : (b : Bool) (v n : ℕ) → cond b (Some v) None ≡ Some n → (b ≡ true) × (v ≡ n)
some_where true v n e = (refl, let same : v ≡ n = cc in same)
some_where false v n e = let no : None ≡ Some n = e in cc

none_where : (b : Bool) (found : Option ℕ) (n : ℕ) → cond b None found ≡ Some n → found ≡ Some n
none_where true found n e = let no : None ≡ Some n = e in cc
none_where false found n e = e

count_range : (words : List (List ℕ)) (count : ℕ) → count_in words ≡ Some count →
    (2 ≤ count) × (count ≤ 65535)
count_range [] count e = let no : None ≡ Some count = e in cc
count_range (word ∷ []) count e =
    let s = some_where (is_decimal word && (leb 2 (value_of word) && leb (value_of word) 65535))
    (value_of word) count e in
    let within = and_right (is_decimal word) (leb 2 (value_of word) && leb
    (value_of word) 65535) s.0 in
    let low = leb-true 2 (value_of word) (and_left (leb 2 (value_of word)) (leb
    (value_of word) 65535) within) in
    let high = leb-true (value_of word) 65535 (and_right (leb 2 (value_of word)) (leb
    (value_of word) 65535) within) in
    (omega (arith, s.1), omega (arith, s.1))
count_range (word ∷ other ∷ words) count e = let no : None ≡ Some count = e in cc

module _ {kind : GraphKind} (texts : List BoxText) (graph : Graph) (d : Draws kind texts graph) where
  targets_are : map (λ (b : GrfBox). b.targets) graph.boxes
      ≡ map (λ (t : BoxText). t.targets) texts
  targets_are =
      ext_get_or [] (map (λ (b : GrfBox). b.targets) graph.boxes)
      (map (λ (t : BoxText). t.targets) texts)
      (length-map graph.boxes (λ (b : GrfBox). b.targets)
      ∙ (d.len ∙ sym (length-map texts (λ (t : BoxText). t.targets))))
      (λ node lt.
      let in_graph : node < length graph.boxes =
      subst (λ n. node < n) (length-map graph.boxes (λ (b : GrfBox). b.targets)) lt in
      let in_texts : node < length texts = subst (λ n. node < n) d.len in_graph in
      get_or-map (λ (b : GrfBox). b.targets) graph.boxes node
      (record { reached = false; lines = []; output = []; targets = [] }) [] in_graph
      ∙ ((d.boxes node in_texts).targets
      ∙ sym (get_or-map (λ (t : BoxText). t.targets) texts node
      (record { content = []; targets = [] }) [] in_texts)))

  reached_is : (node : ℕ) → node < length texts →
      ((box_of_graph graph node).reached ≡ true) ↔ Reached (ways_of_graph graph) node
  reached_is node lt =
      subst (λ ws. ((box_of_graph graph node).reached ≡ true) ↔ Reached ws node)
      (sym (ap ways_of targets_are)) (d.reached node lt)

pub graph_well_formed : {kind : GraphKind} (text : List ℕ) (graph : Graph) → IsGraphOf kind text graph → IsWellFormed graph
graph_well_formed text graph (texts, has, d) = record {
  two = omega (arith, len, range.0);
  most = omega (arith, len, range.1);
  boxes = λ node lt. subst (λ n. IsWellFormedBox n node (box_of_graph graph node)) (sym len)
      (made node (omega (arith, lt, len)));
  reached = λ node lt. reached_is texts graph d node (omega (arith, lt, len, has.told.len));
}
  where
    len : length graph.boxes ≡ has.count
    len = d.len ∙ has.told.len

    range : (2 ≤ has.count) × (has.count ≤ 65535)
    range = count_range (words_of Spaces has.has.first) has.count
        (none_where (eqb (get_or has.has.first 0 0) 32) (count_in
        (words_of Spaces has.has.first)) has.count has.has.told)

    made : (node : ℕ) → node < has.count →
        IsWellFormedBox has.count node (box_of_graph graph node)
    made node lt =
        box_well_formed has.count node (box_at has.lines node) (text_at texts node)
        (box_of_graph graph node) (has.good node lt) (has.told.each node lt)
        (d.boxes node (omega (arith, lt, has.told.len)))
