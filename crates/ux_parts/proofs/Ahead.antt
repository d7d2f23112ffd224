-- A step goes forward, and where it takes nothing the rank of its state does not rise.
use Rattle.std.proofs.Common.{arith, ◌≡◌, ℕ, ◌≤◌, List, [], ◌∷◌, refl, sym, subst, inl, inr}
use Rattle.ux_net.specs.declared.label.Label.{Label}
use Rattle.ux_net.specs.declared.label.Label.TheVariants as label
use Rattle.ux_net.specs.Nullable.{IsSilent, IsFree, none, silent, call}
use Rattle.ux_net.specs.Words.{Letter, plain, piece, Step, Grammar}
use Rattle.ux_outputs.specs.declared.event.Event.{Event}
use Rattle.ux_grf.specs.declared.item.Piece.TheVariants.{Chars, Value}
use Rattle.ux_meaning.specs.Inputs.{Input}
use Rattle.ux_meaning.specs.Meaning.{Stays, Seq, done, takes, stays, calls, holds, refused, RefusesBy}
use Rattle.ux_parts.specs.Runs.{NextBy}
use Rattle.ux_parts.specs.Ordered.{GoesAhead, NeverRises, IsOrdered}

module _ (input : Input) (last : ℕ) (goes : GoesAhead input last) (grammar : Grammar) where
  module _ (R : ℕ → ℕ → ℕ → ℕ → Type 0) where
    pub forward : {w : List Letter} {p j : ℕ} {events : List Event} →
        Seq input grammar R w p j events → p ≤ j
    forward done = omega arith
    forward (takes t s) = let a = goes.forward t in let b = forward s in omega arith
    forward (stays here t s) = forward s
    forward (calls w i s) = let a = forward i in let b = forward s in omega arith
    forward (holds w i s) = forward s
    forward (refused r s) = forward s

    pub within : {w : List Letter} {p j : ℕ} {events : List Event} →
        Seq input grammar R w p j events → p ≤ last → j ≤ last
    within done h = h
    within (takes t s) h = within s (goes.within t)
    within (stays here t s) h = within s h
    within (calls w i s) h = within s (within i h)
    within (holds w i s) h = within s h
    within (refused r s) h = within s h

    -- a letter that stays is silent
    stays_silent : (x : Letter) (p : ℕ) (here : List Event) → Stays input x p here → IsSilent x
    stays_silent (plain label.NoSpace) p here h = refl
    stays_silent (plain (label.Begin name)) p here h = refl
    stays_silent (plain (label.End name)) p here h = refl
    stays_silent (plain label.Cut) p here h = refl
    stays_silent (piece (Chars text)) p here h = tt
    stays_silent (piece (Value name)) p here h = tt
    stays_silent x p here h = absurd h

    -- a word that takes nothing is one that may take nothing
    pub free_word : {w : List Letter} {p j : ℕ} {events : List Event} →
        Seq input grammar R w p j events → j ≤ p → IsFree grammar w
    free_word done h = none
    free_word (takes t s) h =
        let a = goes.forward t in let b = forward s in absurd (omega arith)
    free_word (stays {x = x} {p = p} here t s) h =
        silent (stays_silent x p here t) (free_word s h)
    free_word (calls {k = k} w i s) h =
        let a = forward i in let b = forward s in
        call w (free_word i (omega arith)) (free_word s (omega arith))
    free_word (holds w i s) h = silent tt (free_word s h)
    free_word (refused r s) h = silent tt (free_word s h)

  module _ (levels : ℕ) (rank : ℕ → ℕ → ℕ) where
    -- a step from state `from` at position i to state b at position k
    pub record Lies (g from i b k : ℕ) : Type 0 where
      pub ahead : i ≤ k
      pub inside : i ≤ last → k ≤ last
      pub lower : k ≡ i → rank g b ≤ rank g from

    stood : (g from to i b k : ℕ) → b ≡ to → k ≡ i → rank g to ≤ rank g from → Lies g from i b k
    stood g from to i b k e f h = record {
      ahead = omega arith;
      inside = λ z. omega arith;
      lower = λ z. subst (λ y. rank g y ≤ rank g from) (sym e) h;
    }

    taken : (g from i b k : ℕ) {x : Label} → input.Takes x i k → Lies g from i b k
    taken g from i b k t = let a = goes.forward t in let c = goes.within t in record {
      ahead = omega arith;
      inside = λ z. c;
      lower = λ z. absurd (omega arith);
    }

    lies : (g from to i b k : ℕ) (x : Label) → NeverRises grammar rank g from to x →
        NextBy input grammar levels g x to i b k → Lies g from i b k
    lies g from to i b k label.Empty falls next = stood g from to i b k next.0 next.1 falls
    lies g from to i b k (label.Call h) falls next =
        let e = next.1 in
        record {
          ahead = forward (RefusesBy input grammar levels) e.from.seq;
          inside = within (RefusesBy input grammar levels) e.from.seq;
          lower = λ z. subst (λ y. rank g y ≤ rank g from) (sym next.0)
              (falls.1 (record {
                word = e.from.word;
                of_graph = record { last = e.last; ends = e.ends; run = e.from.run };
                free = free_word (RefusesBy input grammar levels) e.from.seq (omega arith);
              }));
        }
    lies g from to i b k label.Positive falls next =
        let h = next.1 in
        let low : rank g b ≤ rank g from = falls.1 b h.from.word (record {
          step = h.step;
          inside = h.inside;
          closed = h.closed;
          after = h.after;
          run = h.from.run;
        }) in
        stood g from b i b k refl next.0 low
    lies g from to i b k label.Negative falls next =
        let h = next.1 in stood g from b i b k refl next.0 (falls.1 b h.word h.body)
    lies g from to i b k label.ContextEnd falls next = absurd next
    lies g from to i b k label.NoSpace falls next = elim next.1 [
      | inl t ↦ taken g from i b k t
      | inr t ↦ stood g from to i b k next.0 t.0 falls
    ]
    lies g from to i b k (label.Begin name) falls next = elim next.1 [
      | inl t ↦ taken g from i b k t
      | inr t ↦ stood g from to i b k next.0 t.0 falls
    ]
    lies g from to i b k (label.End name) falls next = elim next.1 [
      | inl t ↦ taken g from i b k t
      | inr t ↦ stood g from to i b k next.0 t.0 falls
    ]
    lies g from to i b k label.Cut falls next = elim next.1 [
      | inl t ↦ taken g from i b k t
      | inr t ↦ stood g from to i b k next.0 t.0 falls
    ]
    lies g from to i b k x falls next = elim next.1 [
      | inl t ↦ taken g from i b k t
      | inr t ↦ absurd t.2
    ]

    -- where a step leads
    pub step_lies : IsOrdered grammar rank → (g : ℕ) (s : Step) (x : Label) →
        (grammar.graph g).IsStep s → s.labels ≡ x ∷ [] → (i b k : ℕ) →
        NextBy input grammar levels g x s.to i b k → Lies g s.from i b k
    step_lies ordered g s x inside named i b k next =
        lies g s.from s.to i b k x (ordered.falls g s x inside named) next
