-- From what the parts answer to what the whole answers.
use Rattle.std.proofs.Common.{arith, ◌≡◌, ℕ, zero, suc, ◌+◌, ◌*◌, ◌<◌, ◌≤◌, inl, inr, List, [], Bool, true, false, ap, subst, length, Some, None}
use Rattle.std.specs.Prelude.{Contains, ◌↔◌}
use Rattle.std.proofs.lemmas.List.{get_or_past}
use Rattle.ux_base.proofs.Lists.{nothing_in, less_or}
use Rattle.ux_digraph.specs.Rules.{is_marked_at}
use Rattle.ux_grf.specs.declared.graph.Graph.{Graph}
use Rattle.ux_grf.specs.declared.graph.GrfBox.{GrfBox}
use Rattle.ux_grf.specs.declared.item.Item.{Item}
use Rattle.ux_grf.specs.WellFormed.{IsWellFormed}
use Rattle.ux_rules.specs.declared.draft.Draft.{Draft}
use Rattle.ux_rules.specs.declared.step.Sign.TheVariants.{If, Then}
use Rattle.ux_rules.specs.declared.error.RuleError.{RuleError}
use Rattle.ux_rules.specs.declared.error.RuleError.TheVariants as error
use Rattle.ux_rules.specs.Drafts.{IsDraft, AreBoxesDone, StopsBoxes}
use Rattle.ux_rules.specs.Finding.{FindsFirst, IsBadByPhases}
use Rattle.ux_rules.specs.Marks.{IsBadBox}
use Rattle.ux_rules.specs.Phases.{FindsPhases}
use Rattle.ux_rules.specs.Refusing.{HasCall, HasBadItem, HasIf, IsNowhere, IsFirst, Refuses}
use Rattle.ux_rules.specs.Rules.{AreInside, IsRuleOf}
use Rattle.ux_rules.specs.Runs.{pair_word}
use Rattle.ux_rules.specs.Words.{lines_of}
use Rattle.ux_rules.proofs.BoxLemmas.{good_box}
use Rattle.ux_rules.proofs.FoundLemmas.{found_bad, bad_found, phase_word, word_phase}
use Rattle.ux_rules.proofs.ShapeLemmas.{phase_if_pair, pair_phase}
use Rattle.ux_rules.proofs.WordLemmas.{leads_inside, same_words}

lines_past : (graph : Graph) → 0 < length graph.boxes → (node : ℕ) → length graph.boxes ≤ node →
    lines_of graph node ≡ []
lines_past graph some zero past = absurd (omega (arith, some, past))
lines_past graph some (suc node) past =
    let none : GrfBox = record { reached = false; lines = []; output = []; targets = [] } in
    ap (λ (b : GrfBox). b.lines) (get_or_past graph.boxes (suc node) none past)

-- what isn't in the boxes is nowhere
pub no_call : (graph : Graph) → IsWellFormed graph →
    ((node : ℕ) → node < length graph.boxes → HasCall graph node → ⊥) → IsNowhere (HasCall graph)
no_call graph formed none node h = elim (less_or node (length graph.boxes)) [
  | inl inside ↦ none node inside h
  | inr past ↦
      let two = formed.two in
      let lines = lines_past graph (omega (arith, two)) node past in
      absurd (nothing_in (subst (λ (ls : List (List Item)). Contains ls h.1) lines (h.0, h.2, h.3)))
]

pub no_bad_item : (graph : Graph) → IsWellFormed graph → (draft : Draft) →
    AreBoxesDone graph (length graph.boxes) draft → IsNowhere (HasBadItem graph)
no_bad_item graph formed draft done node h = elim (less_or node (length graph.boxes)) [
  | inl inside ↦ good_box graph node (done.good node inside) h
  | inr past ↦
      let two = formed.two in
      let lines = lines_past graph (omega (arith, two)) node past in
      absurd (nothing_in (subst (λ (ls : List (List Item)). Contains ls h.line) lines h.of_box))
]

module _ (graph : Graph) (formed : IsWellFormed graph) (draft : Draft) (drawn : IsDraft graph draft)
    (done : AreBoxesDone graph (length graph.boxes) draft) (found : List Bool)
    (finds : FindsPhases draft.steps.items found) where
  pub first_bad_box : (node : ℕ) → FindsFirst graph (IsBadByPhases graph found) (Some node) →
      IsFirst (IsBadBox graph) node
  first_bad_box node (inside, first) = record {
    here = found_bad graph formed draft drawn done found finds node inside first.here;
    before = λ m less bad.
        first.before m less (bad_found graph formed draft drawn done found finds m bad);
  }

  pub no_bad_box : FindsFirst graph (IsBadByPhases graph found) None → IsNowhere (IsBadBox graph)
  no_bad_box none node bad =
      none node (leads_inside graph formed bad.leads)
      (bad_found graph formed draft drawn done found finds node bad)

  -- the end is reached behind the third mark of an if-part exactly where there is one
  pub has_if_same : IsNowhere (IsBadBox graph) →
      (is_marked_at found (1 * 9 + 3) ≡ true) ↔ HasIf graph
  has_if_same none = (
    λ marked.
        let two = formed.two in
        let w = phase_word graph formed draft drawn done found finds 1 3 (omega (arith, two))
        (omega arith) marked in
        phase_if_pair graph none w.0 w.1 w.2,
    λ h.
        let word = pair_word If h.0 h.1 in
        subst (λ (p : ℕ). is_marked_at found (1 * 9 + p) ≡ true) (pair_phase h.0 h.1)
        (word_phase graph formed draft drawn done found finds 1 word h.2),
  )

-- the steps of a draft are inside
pub draft_inside : (graph : Graph) → IsWellFormed graph → (draft : Draft) → IsDraft graph draft →
    AreInside draft.places draft.steps.items
draft_inside graph formed draft (spot, drawn) = record {
  two = let two = formed.two in let room = drawn.room in omega (arith, two, room);
  from = drawn.from;
  to = drawn.to;
}

-- the pairs of the steps are those of the graph
pub same_pairs : (graph : Graph) → IsWellFormed graph → (draft : Draft) → IsDraft graph draft →
    AreBoxesDone graph (length graph.boxes) draft →
    IsRuleOf graph (record { places = draft.places; steps = draft.steps.items })
same_pairs graph formed draft drawn done = record {
  ifs = λ left right. same_words graph formed draft drawn done (pair_word If left right);
  thens = λ left right. same_words graph formed draft drawn done (pair_word Then left right);
}

-- what stops the making of the steps refuses the graph
pub stops_refuses : (graph : Graph) → IsNowhere (HasCall graph) → (e : RuleError) →
    StopsBoxes graph e → Refuses graph e
stops_refuses graph none (error.Call n) stops = absurd stops
stops_refuses graph none (error.BadItem n) stops = (none, stops)
stops_refuses graph none (error.BadMarks n) stops = absurd stops
stops_refuses graph none error.NoIf stops = absurd stops
stops_refuses graph none error.NoMemory stops = stops
