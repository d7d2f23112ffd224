-- From the copies of a flat graph to which copies there are: where none of a call that is left out is
-- negative, none is in the flat graph.
use Rattle.std.proofs.Common.{ℕ, suc, ◌≤◌, ◌⊎◌, inl, inr, List, [], ◌∷◌, refl, sym, subst, subst₂, ap, length, Bool}
use Rattle.std.specs.Prelude.{Option}
use Rattle.ux_net.specs.declared.state_graph.StateGraph.{StateGraph}
use Rattle.ux_net.specs.StateGraphs.{AreInsideStates, state_grammar}
use Rattle.ux_net.specs.Words.{Grammar, Step, StepGraph}
use Rattle.ux_flatten.specs.Cuts.{HasWord, Calls, IsNegativeStep, HasCopy, main, by_call, HasNegativeCopy, IsNegativeCut, LeavesOutNothing}
use Rattle.ux_flatten.specs.Cuts as cuts
use Rattle.ux_flatten.specs.Flattening.{TellsWords}
use Rattle.ux_flatten.proofs.FlatGraphs.{Layout, Stands, Enters}
use Rattle.ux_flatten.proofs.LayoutCuts.{NegativeCopy, by_step, by_caller, CutsNothing, CutsNoNegative}
use Rattle.ux_flatten.proofs.EdgePlaces.{at_contains}
use Rattle.ux_flatten.proofs.CopyStates.{copied_deeper, room_at}
use Rattle.ux_flatten.proofs.CopyParts.{Call, IsPart, root, enter}
use Rattle.ux_flatten.proofs.CopyLayout as copies
use Rattle.ux_flatten.proofs.CopyLayout.{stop_text}
use Rattle.ux_flatten.proofs.FlatLaw.{calls_some}

module _ (graphs : List StateGraph) (has_word : ℕ → Bool) (depth : ℕ)
    (tells : TellsWords graphs has_word) (inside : AreInsideStates graphs)
    (some : 1 ≤ length graphs) where
  abbrev grammar : Grammar
  grammar = state_grammar graphs

  abbrev flat_steps : StepGraph
  flat_steps = copies.flat_steps graphs has_word depth tells inside some

  abbrev layout : Layout
  layout = copies.layout graphs has_word depth tells inside some

  -- each copy is made
  pub has_copy : {d g first : ℕ} {call : Option Call} →
      IsPart graphs has_word depth d g first call →
      HasCopy grammar depth g d
  has_copy root = main
  has_copy (enter {d = d} {g = g} {h = h} a state edge part found at is) =
      let deeper = copied_deeper graphs has_word (suc d) _ h is in
      let step : Step =
      record { from = a; to = edge.target; output = edge.output; labels = edge.label ∷ [] } in
      let calls : Calls grammar g h step = record {
        inside = record {
          state = state;
          found = found;
          edge = edge;
          inside = at_contains (room_at graphs has_word (suc d)) at;
          to = refl;
          label = refl;
          puts = refl;
        };
        calls = ap (λ x. x ∷ []) (calls_some edge.label h deeper.2);
      } in
      by_call step (has_copy part) calls ((tells h).0 deeper.3)

  -- the copy in which a state stands is made
  copy_of : (x c a : ℕ) → Stands grammar layout stop_text flat_steps x c a →
      HasCopy grammar depth (layout.graph c) (layout.depth c)
  copy_of x c a st =
      let p = copies.placed graphs has_word depth tells inside some x c a st in
      subst₂ (λ g d. HasCopy grammar depth g d)
      (sym (copies.graph_told graphs has_word depth tells inside some p.part))
      (sym (copies.depth_told graphs has_word depth tells inside some p.part)) (has_copy p.part)

  abbrev Entering : ℕ → Step → ℕ → Step → Type 0
  Entering = Enters grammar layout stop_text flat_steps

  -- so is a negative one
  negative_copy : {c : ℕ} → NegativeCopy grammar layout stop_text flat_steps c →
      HasNegativeCopy grammar depth (layout.graph c) (layout.depth c)
  negative_copy (by_step {c = c} {h = h} {t = t} {s = s} e within negative) =
      subst (λ g. HasNegativeCopy grammar depth g (layout.depth e.new)) (sym e.graph)
      (cuts.by_step t
      (subst (λ d. HasCopy grammar depth (layout.graph c) d) e.depth
      (copy_of s.from c t.from e.from))
      (record { inside = e.inside; calls = e.labels }) (e.word, e.has) negative)
  negative_copy (by_caller {c = c} {h = h} {t = t} e within before) =
      subst (λ g. HasNegativeCopy grammar depth g (layout.depth e.new)) (sym e.graph)
      (cuts.by_caller t
      (subst (λ d. HasNegativeCopy grammar depth (layout.graph c) d) e.depth (negative_copy before))
      (record { inside = e.inside; calls = e.labels }) (e.word, e.has))

  -- no call is left out in a negative context
  pub cuts_no_negative : ((g node : ℕ) → IsNegativeCut grammar depth g node → ⊥) →
      CutsNoNegative grammar layout stop_text flat_steps
  cuts_no_negative none x c h t st at_zero is calls negative =
      none (layout.graph c) t.from (record {
        step = t;
        called = h;
        calls = record { inside = is; calls = calls };
        from = refl;
        cut = by_kind negative;
      })
    where
      by_kind : NegativeCopy grammar layout stop_text flat_steps c
          ⊎ IsNegativeStep grammar (layout.graph c) t →
          HasNegativeCopy grammar depth (layout.graph c) 0
          ⊎ (HasCopy grammar depth (layout.graph c) 0 × IsNegativeStep grammar (layout.graph c) t)
      by_kind (inl copy) =
          inl (subst (λ d. HasNegativeCopy grammar depth (layout.graph c) d) at_zero
          (negative_copy copy))
      by_kind (inr step) =
          inr (
            subst (λ d. HasCopy grammar depth (layout.graph c) d) at_zero
                (copy_of x c t.from st),
            step,
          )

  -- and none at all
  pub cuts_nothing : LeavesOutNothing grammar depth →
      CutsNothing grammar layout stop_text flat_steps
  cuts_nothing none x c h t st at_zero is calls =
      none (layout.graph c) h t
      (subst (λ d. HasCopy grammar depth (layout.graph c) d) at_zero (copy_of x c t.from st))
      (record { inside = is; calls = calls })
