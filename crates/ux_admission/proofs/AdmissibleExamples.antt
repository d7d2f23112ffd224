-- Loops and recursions through contexts, worked out.
use Rattle.std.proofs.Common.{arith, ◌≡◌, ℕ, zero, suc, List, [], ◌∷◌, refl, sym, ap, ◌∙◌, inl, inr}
use Rattle.std.specs.Prelude.{Contains}
use Rattle.ux_net.specs.declared.label.Label.TheVariants.{Empty, CaseFolded, Positive, ContextEnd, Call}
use Rattle.ux_net.specs.Words.{positive, Step, StepGraph, Grammar, ordinary, opens, closes, mark_of, stop, along}
use Rattle.ux_net.specs.Closers.{ClosesInto}
use Rattle.ux_net.specs.Nullable.{none}
use Rattle.ux_admission.specs.Admissible.{MovesFreely, along_step, over_context, IsOnMove, in_front, at_opening, by_call, by_opening, once, Enters, IsOnEmptyLoop, IsLeftRecursive}
use Rattle.ux_admission.proofs.FreeLemmas.{free_ordinary, move_of}
use Rattle.ux_net.proofs.WordsExamples.{listed, bare}

-- the grammar of one graph
abbrev alone : StepGraph → Grammar
alone graph = record { count = 1; graph = λ g. graph }

-- Where a place is on a loop, so is the one from which its move leads: the places into which
-- contexts open are named, and make no further grammar inadmissible.
pub loop_in_front : (grammar : Grammar) (g node : ℕ) (o : IsOnEmptyLoop grammar g node) →
    IsOnEmptyLoop grammar g o.from
loop_in_front grammar g node o = record {
  from = o.from;
  next = o.next;
  moves = in_front (move_of grammar g o.moves);
  back = o.back;
  first = o.first;
  unit = o.unit;
  word = o.word;
  reached = o.reached;
}

-- A loop over a context takes nothing: 0 $[ 1 a 2 $] 3, and back to 0.
module _ (a : List ℕ) where
  abbrev opening : Step
  opening = bare 0 1 (Positive ∷ [])

  abbrev found : Step
  found = bare 1 2 (CaseFolded a ∷ [])

  abbrev closing : Step
  closing = bare 2 3 (ContextEnd ∷ [])

  abbrev back : Step
  back = bare 3 0 (Empty ∷ [])

  abbrev circle : List Step
  circle = opening ∷ found ∷ closing ∷ back ∷ []

  abbrev Circular : Grammar
  Circular = alone (listed circle 3)

  closed : ClosesInto Circular 1 1 3
  closed = (
    _,
    record {
      step = closing;
      inside = (2, omega arith, refl);
      closed = refl;
      after = refl;
      run = along found (1, omega arith, refl) refl stop;
    },
  )

  -- what is on the move over the context is on the loop
  on_loop : (node : ℕ) → IsOnMove Circular 1 node 0 3 → IsOnEmptyLoop Circular 1 node
  on_loop node moves = record {
    from = 0;
    next = 3;
    moves = moves;
    back = (_, along back (3, omega arith, refl) refl stop, none);
    first = 0;
    unit = inl refl;
    word = [];
    reached = stop;
  }

  pub loop_over_context : IsOnEmptyLoop Circular 1 0
  loop_over_context =
      on_loop 0 (in_front (over_context positive opening (0, omega arith, refl) refl closed))

  -- the place into which the context opens is on the loop too
  pub loop_at_opening : IsOnEmptyLoop Circular 1 1
  loop_at_opening = on_loop 1 (at_opening positive opening (0, omega arith, refl) refl closed)

  -- place 2 is left by the closing step alone, and is entered by an ordinary one
  from_inside : (s : Step) → Contains circle s → s.from ≡ 2 → mark_of s.labels ≡ closes
  from_inside s (zero, below, is) two = absurd (omega (arith, ap (λ (t : Step). t.from) is, two))
  from_inside s (suc zero, below, is) two =
      absurd (omega (arith, ap (λ (t : Step). t.from) is, two))
  from_inside s (suc (suc zero), below, is) two = ap (λ (t : Step). mark_of t.labels) (sym is)
  from_inside s (suc (suc (suc zero)), below, is) two =
      absurd (omega (arith, ap (λ (t : Step). t.from) is, two))
  from_inside s (suc (suc (suc (suc k))), below, is) two = absurd (omega (arith, below))

  into_inside : (s : Step) → Contains circle s → s.to ≡ 2 → mark_of s.labels ≡ ordinary
  into_inside s (zero, below, is) two = absurd (omega (arith, ap (λ (t : Step). t.to) is, two))
  into_inside s (suc zero, below, is) two = ap (λ (t : Step). mark_of t.labels) (sym is)
  into_inside s (suc (suc zero), below, is) two =
      absurd (omega (arith, ap (λ (t : Step). t.to) is, two))
  into_inside s (suc (suc (suc zero)), below, is) two =
      absurd (omega (arith, ap (λ (t : Step). t.to) is, two))
  into_inside s (suc (suc (suc (suc k))), below, is) two = absurd (omega (arith, below))

  moves_not : {from to : ℕ} → MovesFreely Circular 1 from to → from ≡ 2 → ⊥
  moves_not (along_step s i f) two =
      let no : ordinary ≡ closes = sym (free_ordinary Circular s.labels f) ∙ from_inside s i two in
      cc
  moves_not (over_context sign s i m body) two =
      let no : opens sign ≡ closes = sym m ∙ from_inside s i two in cc

  on_no_move : {node from to : ℕ} → IsOnMove Circular 1 node from to → node ≡ 2 → ⊥
  on_no_move (in_front m) two = moves_not m two
  on_no_move (at_opening sign s i m body) two =
      let no : opens sign ≡ ordinary = sym m ∙ into_inside s i two in cc

  -- a place inside the context is not
  pub no_loop_inside : IsOnEmptyLoop Circular 1 2 → ⊥
  no_loop_inside o = on_no_move o.moves refl

-- A body that calls its own graph begins with itself: 0 $[ 1, where 1 is left by a call of graph 1.
abbrev enters_body : Step
enters_body = bare 0 1 (Positive ∷ [])

abbrev calls_itself : Step
calls_itself = bare 1 2 (Call 1 ∷ [])

abbrev Recursive : Grammar
Recursive = alone (listed (enters_body ∷ calls_itself ∷ []) 2)

graph_enters : Enters Recursive 1 0 1 1 1
graph_enters = record {
  step = enters_body;
  of_graph = (0, omega arith, refl);
  to_node = refl;
  leads = ([], stop, none);
  enters = by_opening positive refl;
}

body_enters : Enters Recursive 1 1 1 0 2
body_enters = record {
  step = calls_itself;
  of_graph = (1, omega arith, refl);
  to_node = refl;
  leads = ([], stop, none);
  enters = by_call [] [] refl none;
}

pub body_begins_with_itself : IsLeftRecursive Recursive 1 2
body_begins_with_itself = record {
  first = 1;
  unit = inr (
    positive,
    record { step = enters_body; of_graph = (0, omega arith, refl); to = refl; opens = refl },
  );
  entered_graph = 1;
  entered_first = 0;
  enters = body_enters;
  returns = inr (once graph_enters);
}

pub graph_begins_with_itself : IsLeftRecursive Recursive 1 1
graph_begins_with_itself = record {
  first = 0;
  unit = inl refl;
  entered_graph = 1;
  entered_first = 1;
  enters = graph_enters;
  returns = inr (once body_enters);
}
