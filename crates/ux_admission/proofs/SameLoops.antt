-- Where each graph of a grammar has all steps and ends of that of another, the same loops and
-- recursions take nothing in it.
use Rattle.std.proofs.Common.{ℕ, List, subst, sym, ◌∙◌, inl, inr}
use Rattle.ux_net.specs.Words.{Step, Grammar, Letter}
use Rattle.ux_net.specs.Nullable.{IsFree, none, silent, call}
use Rattle.ux_admission.specs.Admissible.{LeadsFreely, MovesFreely, along_step, over_context, IsOnMove, in_front, at_opening, IsUnit, EntersAt, by_call, by_opening, Enters, EntersInTurns, once, more, IsOnEmptyLoop, IsLeftRecursive, IsAdmissible}
use Rattle.ux_boxes.specs.Refusing.{IsFirst}
use Rattle.ux_net.proofs.SameGrammar.{IsWithin, run_within, word_within}
use Rattle.ux_admission.proofs.SameContexts.{closes_within}

module _ (old new : Grammar) (within : (g : ℕ) → IsWithin (old.graph g) (new.graph g)) where
  free_within : {word : List Letter} → IsFree old word → IsFree new word
  free_within none = none
  free_within (silent s rest) = silent s (free_within rest)
  free_within (call {h = h} {called = called} is free rest) =
      call (word_within h (old.graph h) (new.graph h) (within h) called is) (free_within free)
      (free_within rest)

  leads_within : (g a b : ℕ) → LeadsFreely old g a b → LeadsFreely new g a b
  leads_within g a b l =
      (l.0, run_within g (old.graph g) (new.graph g) (within g) l.1, free_within l.2)

  unit_within : (g first : ℕ) → IsUnit old g first → IsUnit new g first
  unit_within g first (inl e) = inl (e ∙ (within g).start)
  unit_within g first (inr o) = inr (
    o.0,
    record {
      step = o.1.step;
      of_graph = (within g).steps o.1.step o.1.of_graph;
      to = o.1.to;
      opens = o.1.opens;
    },
  )

  move_within : (g : ℕ) {a b : ℕ} → MovesFreely old g a b → MovesFreely new g a b
  move_within g (along_step s i f) = along_step s ((within g).steps s i) (free_within f)
  move_within g (over_context {closing = c} sign s i m b) =
      over_context sign s ((within g).steps s i) m (closes_within old new within g s.to c b)

  on_within : (g : ℕ) {node a b : ℕ} → IsOnMove old g node a b → IsOnMove new g node a b
  on_within g (in_front m) = in_front (move_within g m)
  on_within g (at_opening {closing = c} sign s i m b) =
      at_opening sign s ((within g).steps s i) m (closes_within old new within g s.to c b)

  entry_within : (g : ℕ) (s : Step) {h v : ℕ} → EntersAt old g s h v → EntersAt new g s h v
  entry_within g s (by_call {h = h} front back e f) =
      subst (λ v. EntersAt new g s h v) (sym (within h).start)
      (by_call front back e (free_within f))
  entry_within g s (by_opening sign m) = by_opening sign m

  enters_within : (g u h v node : ℕ) → Enters old g u h v node → Enters new g u h v node
  enters_within g u h v node e = record {
    step = e.step;
    of_graph = (within g).steps e.step e.of_graph;
    to_node = e.to_node;
    leads = leads_within g u e.step.from e.leads;
    enters = entry_within g e.step e.enters;
  }

  turns_within : {g u h v : ℕ} → EntersInTurns old g u h v → EntersInTurns new g u h v
  turns_within (once {g = g} {u = u} {h = h} {v = v} {node = node} e) =
      once (enters_within g u h v node e)
  turns_within (more {g = g} {u = u} {h = h} {v = v} {node = node} e rest) =
      more (enters_within g u h v node e) (turns_within rest)

  pub loop_within : (g node : ℕ) → IsOnEmptyLoop old g node → IsOnEmptyLoop new g node
  loop_within g node o = record {
    from = o.from;
    next = o.next;
    moves = on_within g o.moves;
    back = leads_within g o.next o.from o.back;
    first = o.first;
    unit = unit_within g o.first o.unit;
    word = o.word;
    reached = run_within g (old.graph g) (new.graph g) (within g) o.reached;
  }

  pub recursion_within : (g node : ℕ) → IsLeftRecursive old g node → IsLeftRecursive new g node
  recursion_within g node r = record {
    first = r.first;
    unit = unit_within g r.first r.unit;
    entered_graph = r.entered_graph;
    entered_first = r.entered_first;
    enters = enters_within g r.first r.entered_graph r.entered_first node r.enters;
    returns = elim r.returns [ inl e ↦ inl e | inr t ↦ inr (turns_within t) ];
  }

-- what is first, where two facts hold of the same nodes
pub first_so : (P Q : (g node : ℕ) → Type 0) → ((g n : ℕ) → P g n → Q g n) →
    ((g n : ℕ) → Q g n → P g n) → (g node : ℕ) → IsFirst P g node → IsFirst Q g node
first_so P Q forth back g node f = record {
  here = forth g node f.here;
  first = λ h m low so. f.first h m low (back h m so);
  least = λ m low so. f.least m low (back g m so);
}

-- of two grammars of which each is within the other, both are admissible or none
pub admissible_within : (old new : Grammar) →
    ((g : ℕ) → IsWithin (new.graph g) (old.graph g)) → IsAdmissible old → IsAdmissible new
admissible_within old new back a = record {
  no_empty_loop = λ g node o. a.no_empty_loop g node (loop_within new old back g node o);
  no_left_recursion = λ g node r. a.no_left_recursion g node (recursion_within new old back g node r);
}
