-- The grammar that is made up has a meaning: each call has its graph, each mask text is a mask's, and
-- each step takes a token first.
use Rattle.std.proofs.Common.{◌≡◌, ◌≢◌, ◌∙◌, inl, inr, ℕ, zero, suc, ◌+◌, Bool, true, false, List, [], ◌∷◌, ◌++◌, ap, nat_eq, nat_lt, not, refl, subst}
use Rattle.std.specs.Prelude.{Contains, codes}
use Rattle.std.specs.List.{list_all}
use Rattle.std.proofs.lemmas.List.Elements.{All-contains, All-from_recursion}
use Rattle.std.proofs.lemmas.List.Sums.{AllPass-from_list_all}
use Rattle.ux_alphabet.specs.Letters.{Letters}
use Rattle.ux_base.proofs.FirstsLemmas.{Contains-after, Contains-cases, Contains-first, Contains-none}
use Rattle.ux_grf.specs.declared.graph.GrfBox.{GrfBox}
use Rattle.ux_grf.specs.declared.item.Item.{Item}
use Rattle.ux_grf.specs.declared.item.Item.TheVariants as item
use Rattle.ux_boxes.specs.Boxes.{Drawn, IsBoxStep, IsSplitLine, box_grammar, boxes_of, lines_at, names_of, targets_at}
use Rattle.ux_boxes.specs.MaskTexts.{AreMasks, HaveMasks, IsMask, mask_texts_of}
use Rattle.ux_boxes.specs.Refusing.{AreMasked, AreWhole}
use Rattle.ux_compile.specs.Refusing.{IsCompilable}
use Rattle.ux_net.specs.Words.{Step}
use Rattle.ux_net.specs.declared.label.Label.TheVariants.{Call, Mask}
use Rattle.ux_cmd_bench.specs.Bench.{grammar_of}
use Rattle.ux_cmd_bench.proofs.GraphsDrawn.{ap_graph, np_graph}
use Rattle.ux_cmd_bench.proofs.CodeMasks.{adjective_mask, determiner_mask, noun_mask}
use Rattle.ux_cmd_bench.proofs.TakingLemmas.{AreTaking, Takes, by_mask, later_call, taking_admissible, taking_closed, taking_no_recursion}

passes : {X : Type 0} (p : X → Bool) (xs : List X) (x : X) → list_all p xs ≡ true →
    Contains xs x → p x ≡ true
passes p xs x all has = All-contains (λ y. p y ≡ true) xs x (AllPass-from_list_all p xs all) has

-- the line is one mask, or one call that isn't the first thing that happens
abbrev takes_line : (from : ℕ) → List Item → Bool
takes_line from (item.Mask text ∷ []) = true
takes_line from (item.Call name ∷ []) = nat_lt 0 from
takes_line from line = false

-- each line of each box to which this box leads is
abbrev takes_from : List GrfBox → ℕ → Bool
takes_from boxes from =
    list_all (λ to. list_all (takes_line from) (lines_at boxes to)) (targets_at boxes from)

-- each is so at each box, and the start doesn't lead to the end
pub record DoTake (boxes : List GrfBox) : Type 0 where
  pub takes : (from : ℕ) → takes_from boxes from ≡ true
  pub starts : list_all (λ to. not (nat_eq to 1)) (targets_at boxes 0) ≡ true

behind_start : (from : ℕ) → nat_lt 0 from ≡ true → from ≢ 0
behind_start from is none =
    let no : nat_lt 0 0 ≡ true = subst (λ n. nat_lt 0 n ≡ true) none is in cc

module _ (letters : Letters) (names : List (List ℕ)) where
  -- the labels of such a line
  line_takes : (line : List Item) (step : Step) → IsSplitLine letters names line step.labels →
      takes_line step.from line ≡ true → Takes 0 step
  line_takes (item.Mask text ∷ []) step split is =
      by_mask split.2.0 (split.4 ∙ ap (λ front. front ++ split.1) split.2.2
      ∙ ap (λ back. Mask split.2.0 ∷ back) split.3)
  line_takes (item.Call name ∷ []) step split is =
      later_call (split.2.0 + 1) (split.4 ∙ ap (λ front. front ++ split.1) split.2.2
      ∙ ap (λ back. Call (split.2.0 + 1) ∷ back) split.3) (behind_start step.from is)
  line_takes line step split is = cc

  -- so each step does
  step_takes : (boxes : List GrfBox) → DoTake boxes → (step : Step) →
      IsBoxStep letters names boxes step → Takes 0 step
  step_takes boxes take step is =
      line_takes is.line step is.splits
      (passes (takes_line step.from) (lines_at boxes step.to) is.line
      (passes (λ to. list_all (takes_line step.from) (lines_at boxes to))
      (targets_at boxes step.from) step.to (take.takes step.from) is.leads) is.of_box)

-- a run takes a step at least
never_ends : (boxes : List GrfBox) → DoTake boxes → Contains (targets_at boxes 0) 1 → ⊥
never_ends boxes take ends =
    let no : false ≡ true = passes (λ to. not (nat_eq to 1)) (targets_at boxes 0) 1 take.starts ends
    in cc

-- each graph is so
none_take : DoTake []
none_take = record { takes = λ from. refl; starts = refl }

np_takes : DoTake np_graph.boxes
np_takes = record { takes = each; starts = refl }
  where
    each : (from : ℕ) → takes_from np_graph.boxes from ≡ true
    each zero = refl
    each (suc zero) = refl
    each (suc (suc zero)) = refl
    each (suc (suc (suc zero))) = refl
    each (suc (suc (suc (suc zero)))) = refl
    each (suc (suc (suc (suc (suc n))))) = refl

ap_takes : DoTake ap_graph.boxes
ap_takes = record { takes = each; starts = refl }
  where
    each : (from : ℕ) → takes_from ap_graph.boxes from ≡ true
    each zero = refl
    each (suc zero) = refl
    each (suc (suc zero)) = refl
    each (suc (suc (suc zero))) = refl
    each (suc (suc (suc (suc n)))) = refl

-- the two graphs
abbrev pub phrases : List Drawn
phrases = grammar_of np_graph ap_graph

graphs_take : (g : ℕ) → DoTake (boxes_of phrases g)
graphs_take zero = none_take
graphs_take (suc zero) = np_takes
graphs_take (suc (suc zero)) = ap_takes
graphs_take (suc (suc (suc n))) = none_take

phrases_take : (letters : Letters) → AreTaking (box_grammar letters phrases)
phrases_take letters = record {
  takes = λ g step is.
      step_takes letters (names_of phrases) (boxes_of phrases g) (graphs_take g) step is;
  starts = λ g ends. never_ends (boxes_of phrases g) (graphs_take g) ends.1;
}

-- both call AP alone
calls_ap : (name : List ℕ) → Contains (codes "AP" ∷ []) name → Contains (names_of phrases) name
calls_ap name has = elim (Contains-cases (codes "AP") name [] has) [
  | inl is ↦ subst (Contains (names_of phrases)) is
      (Contains-after (codes "NP") (codes "AP") (codes "AP" ∷ []) (Contains-first (codes "AP") []))
  | inr nothing ↦ absurd (Contains-none name nothing)
]

phrases_whole : AreWhole phrases
phrases_whole zero name has = calls_ap name has
phrases_whole (suc zero) name has = calls_ap name has
phrases_whole (suc (suc n)) name has = absurd (Contains-none name has)

-- each mask text is a mask's
no_mask : AreMasks []
no_mask = All-from_recursion IsMask [] tt

one_mask : (text : List ℕ) → IsMask text → AreMasks (text ∷ [])
one_mask text is = All-from_recursion IsMask (text ∷ []) (is, tt)

np_masks : HaveMasks np_graph.boxes
np_masks =
    All-from_recursion (λ (box : GrfBox). AreMasks (mask_texts_of box)) np_graph.boxes (
      no_mask,
      (
        no_mask,
        (
          one_mask (codes "DET") determiner_mask,
          (one_mask (codes "N") noun_mask, (no_mask, tt)),
        ),
      ),
    )

ap_masks : HaveMasks ap_graph.boxes
ap_masks =
    All-from_recursion (λ (box : GrfBox). AreMasks (mask_texts_of box)) ap_graph.boxes
    (no_mask, (no_mask, (one_mask (codes "A") adjective_mask, (no_mask, tt))))

phrases_masked : AreMasked phrases
phrases_masked =
    All-from_recursion (λ (graph : Drawn). HaveMasks graph.boxes) phrases (np_masks, (ap_masks, tt))

pub phrases_compilable : (letters : Letters) → IsCompilable letters phrases
phrases_compilable letters =
    let taking = phrases_take letters in
    record {
      whole = phrases_whole;
      masked = phrases_masked;
      contexts = record {
        closed = taking_closed (box_grammar letters phrases) taking;
        no_recursion = taking_no_recursion (box_grammar letters phrases) taking;
      };
      admissible = taking_admissible (box_grammar letters phrases) taking;
    }
