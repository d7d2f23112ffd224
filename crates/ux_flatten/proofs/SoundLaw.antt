-- The theorem by which a flat graph is admitted where its grammar is: contexts are closed, none that may
-- not follow uses what has it, no loop takes nothing, and no unit begins with itself.
use Rattle.std.proofs.Common.{arith, ◌≡◌, ℕ, zero, suc, ◌<◌, ◌≤◌, List, [], ◌∷◌, refl, sym, subst, length}
use Rattle.std.specs.Prelude.{Bool, Option}
use Rattle.ux_net.specs.declared.state_graph.StateGraph.{StateGraph}
use Rattle.ux_net.specs.StateGraphs.{AreInsideStates, state_grammar, told_states}
use Rattle.ux_net.specs.Words.{Step, Grammar}
use Rattle.ux_admission.specs.SoundGrammar.{IsSoundGrammar}
use Rattle.ux_flatten.specs.Copies.{flat_graph}
use Rattle.ux_flatten.specs.Flattening.{TellsWords, IsFlatGraph}
use Rattle.ux_flatten.proofs.FlatGraphs.{ClosesContexts, IsFlat, Layout, Stands}
use Rattle.ux_flatten.proofs.EdgePlaces.{at_from, at_state}
use Rattle.ux_flatten.proofs.CopyStates.{behind, room_at}
use Rattle.ux_flatten.proofs.CopyParts.{Call, IsPart, root, enter}
use Rattle.ux_flatten.proofs.CopyLayout as copies
use Rattle.ux_flatten.proofs.CopyLayout.{caller_of, stop_text}
use Rattle.ux_flatten.proofs.FlatLaw.{is_flat}
use Rattle.ux_flatten.proofs.ClosedLaw.{flat_closed, no_step}
use Rattle.ux_flatten.proofs.LayoutContexts.{closes_contexts}
use Rattle.ux_flatten.proofs.SoundUnits.{no_recursion, no_left}
use Rattle.ux_flatten.proofs.SoundLoops.{no_loop}

-- a grammar of one graph has no steps in another
only : (graph : StateGraph) (g : ℕ) (s : Step) →
    ((state_grammar (graph ∷ [])).graph g).IsStep s → g ≡ 1
only graph zero s step = absurd (no_step s step)
only graph (suc zero) s step = refl
only graph (suc (suc n)) s step = absurd (no_step s step)

module _ (graphs : List StateGraph) (has_word : ℕ → Bool) (depth : ℕ)
    (tells : TellsWords graphs has_word) (inside : AreInsideStates graphs)
    (some : 1 ≤ length graphs) (sound : IsSoundGrammar (state_grammar graphs)) where
  abbrev grammar : Grammar
  grammar = state_grammar graphs

  abbrev graph : StateGraph
  graph = flat_graph graphs has_word depth

  abbrev whole : Grammar
  whole = state_grammar (graph ∷ [])

  abbrev layout : Layout
  layout = copies.layout graphs has_word depth tells inside some

  is_of_copies : IsFlat grammar layout stop_text (whole.graph 1) 1 depth
  is_of_copies = is_flat graphs has_word depth tells inside some

  closing : ClosesContexts grammar
  closing = closes_contexts grammar sound.contexts.closed

  -- a copy stands behind its caller's first state
  behind_caller : {d g first : ℕ} {call : Option Call} → IsPart graphs has_word depth d g first call →
      (first ≡ 0 → ⊥) → caller_of call < first
  behind_caller root later = absurd (later refl)
  behind_caller (enter {d = d} {g = g} {first = first} a state edge part found at is) later =
      let room = room_at graphs has_word (suc d) in
      let from = at_from room
      (at_state room (behind graphs has_word g first) (told_states graphs g) a state found at) in
      omega (arith, from, copies.part_some graphs has_word depth tells inside some part)

  before : (x c a : ℕ) → Stands grammar layout stop_text (whole.graph 1) x c a →
      (c ≡ layout.root → ⊥) → layout.caller c < c
  before x c a at inner =
      let p = copies.placed graphs has_word depth tells inside some x c a at in
      subst (λ n. n < c)
      (sym (copies.caller_told graphs has_word depth tells inside some p.part))
      (behind_caller p.part inner)

  sound_by_words : IsSoundGrammar whole
  sound_by_words = record {
    contexts = record {
      closed = flat_closed graphs has_word depth tells inside some sound.contexts.closed;
      no_recursion = no_recursion grammar layout stop_text whole 1 depth is_of_copies closing (only graph)
          sound.contexts.no_recursion;
    };
    admissible = record {
      no_empty_loop = no_loop grammar layout stop_text whole 1 depth is_of_copies closing (only graph)
          before sound.admissible.no_empty_loop;
      no_left_recursion = no_left grammar layout stop_text whole 1 depth is_of_copies closing (only graph)
          sound.admissible.no_left_recursion;
    };
  }

-- the law
pub flat_sound : (graphs : List StateGraph) (depth : ℕ) (flat : StateGraph) → AreInsideStates graphs →
    1 ≤ length graphs → IsSoundGrammar (state_grammar graphs) → IsFlatGraph graphs depth flat →
    IsSoundGrammar (state_grammar (flat ∷ []))
flat_sound graphs depth of_graphs inside some sound is =
    subst (λ (g : StateGraph). IsSoundGrammar (state_grammar (g ∷ []))) (sym is.is)
    (sound_by_words graphs is.has_word depth is.tells inside some sound)
