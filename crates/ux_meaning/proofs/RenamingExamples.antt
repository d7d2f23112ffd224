-- A grammar whose places are numbered anew says and derives the same.
use Rattle.std.proofs.Common.{arith, ◌≡◌, ℕ, suc, List, [], refl, sym, ◌∙◌, ap, inr, append-nil, ◌↔◌}
use Rattle.std.specs.Prelude.{Contains}
use Rattle.ux_net.specs.Words.{Letter, mark_of, Step, StepGraph, Grammar, SayTheSame}
use Rattle.ux_net.proofs.RunLemmas.{one_step}
use Rattle.ux_net.proofs.RefineLemmas.{letters_along, IsNumbered, Refines, refined_same, each_same}
use Rattle.ux_outputs.specs.declared.event.Event.{Event}
use Rattle.ux_meaning.specs.Inputs.{Input}
use Rattle.ux_meaning.specs.Meaning.{Der}
use Rattle.ux_meaning.proofs.Renaming.{same_meaning}

-- a graph of these steps, from place 0 to the last one
abbrev listed : List Step → ℕ → StepGraph
listed steps last = record {
  start = 0;
  IsPlace = λ n. Unit {0};
  IsEnd = λ n. n ≡ last;
  IsStep = Contains steps;
}

-- A grammar of one graph, and the same with the next number for each place.
module _ (steps : List Step) (last : ℕ) where
  abbrev next : Step → Step
  next s = record { from = suc s.from; to = suc s.to; output = s.output; labels = s.labels }

  abbrev Old : Grammar
  Old = record { count = 1; graph = λ g. listed steps last }

  pub record IsNext (t : Step) : Type 0 where
    pub old : Step
    pub inside : Contains steps old
    pub is : t ≡ next old

  abbrev Next : StepGraph
  Next = record {
    start = 1;
    IsPlace = λ n. Unit {0};
    IsEnd = λ n. n ≡ suc last;
    IsStep = IsNext;
  }

  abbrev New : Grammar
  New = record { count = 1; graph = λ g. Next }

  abbrev number : (g place : ℕ) → ℕ
  number g n = suc n

  abbrev Ahead : ℕ → ℕ → List Letter → Type 0
  Ahead n b u = (n ≡ suc b) × (u ≡ [])

  is_next : (s : Step) → Contains steps s → IsNext (next s)
  is_next s inside = record { old = s; inside = inside; is = refl }

  next_numbered : (g : ℕ) (s t : Step) → t ≡ next s → IsNumbered Old number g s t
  next_numbered g s t is = record {
    from = ap (λ (x : Step). x.from) is;
    to = ap (λ (x : Step). x.to) is;
    output = ap (λ (x : Step). x.output) is;
    mark = ap (λ (x : Step). mark_of x.labels) is;
  }

  old_from : (t : Step) (n : IsNext t) (b : ℕ) → t.from ≡ suc b → n.old.from ≡ b
  old_from t n b from = let e = ap (λ (x : Step). x.from) n.is in omega (arith, e, from)

  refines : (g : ℕ) → Refines Old number g Ahead Next
  refines g = record {
    start = tt;
    keeps = λ s at inside. tt;
    apart = λ a b at_a at_b same. omega (arith, same);
    here = λ a at. (refl, refl);
    place = λ n b u ahead. tt;
    starts = omega arith;
    ends = λ a at e. ap suc e;
    ends_back = λ n b u ahead e. (ahead.1, let from = ahead.0 in omega (arith, e, from));
    forth = λ s at inside mark. one_step g Next (next s) (is_next s inside) mark;
    forth_opens = λ s sign at inside mark.
        (next s, is_next s inside, next_numbered g s (next s) refl);
    forth_closes = λ s at inside mark.
        (next s, is_next s inside, next_numbered g s (next s) refl);
    back = λ t b u n mark ahead. inr (
      ahead.1,
      n.old,
      n.inside,
      ap (λ (x : Step). mark_of x.labels) (sym n.is) ∙ mark,
      old_from t n b ahead.0,
      [],
      (ap (λ (x : Step). x.to) n.is, refl),
      ap letters_along (sym n.is) ∙ sym (append-nil (letters_along t)),
    );
    back_opens = λ t sign b u n mark ahead. (
      ahead.1,
      n.old,
      n.inside,
      old_from t n b ahead.0,
      next_numbered g n.old t n.is,
    );
    back_closes = λ t b u n mark ahead. (
      ahead.1,
      n.old,
      n.inside,
      old_from t n b ahead.0,
      next_numbered g n.old t n.is,
    );
  }

  -- they say the same
  pub numbered_anew : SayTheSame Old New
  numbered_anew =
      each_same Old number New (λ g. refined_same Old number g Ahead Next (refines g))

  -- and derive the same, over any input
  pub derived_anew : (input : Input) (g i j : ℕ) (events : List Event) →
      Der input Old g i j events ↔ Der input New g i j events
  derived_anew input g i j events = same_meaning input Old New numbered_anew g i j events
