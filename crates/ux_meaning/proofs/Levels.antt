-- One number of levels serves for all: at the top level of a grammar's negative contexts each
-- derivation is told, and a context is refused exactly where no word of its body applies.
use Rattle.std.proofs.Common.{arith, ℕ, zero, suc, ◌<◌, ◌≤◌, List, [], ◌∷◌, ◌↔◌, max}
use Rattle.ux_net.specs.declared.label.Label.TheVariants as label
use Rattle.ux_outputs.specs.declared.event.Event.{Event}
use Rattle.ux_net.specs.Words.{positive, negative, Letter, plain, context, Grammar, IsBody}
use Rattle.ux_meaning.specs.Inputs.{Input}
use Rattle.ux_meaning.specs.Meaning.{Seq, done, takes, stays, calls, holds, refused, RefusesBy, DerBy, Der}
use Rattle.ux_net.specs.Levels.{LetterLevel, WordLevel, HasLevels}

module _ (input : Input) (grammar : Grammar) (level : ℕ → ℕ → ℕ) where
  pub letter_above : (n m : ℕ) → n ≤ m → (x : Letter) → LetterLevel grammar level n x → LetterLevel grammar level m x
  letter_above n m le (plain (label.Call h)) l = omega arith
  letter_above n m le (context positive g opening closing) l = omega arith
  letter_above n m le (context negative g opening closing) l = omega arith
  letter_above n m le letter l = tt

  pub word_above : (n m : ℕ) → n ≤ m → (w : List Letter) → WordLevel grammar level n w → WordLevel grammar level m w
  word_above n m le [] l = tt
  word_above n m le (x ∷ w) l = (letter_above n m le x l.0, word_above n m le w l.1)

  module _ (top : ℕ) (has : HasLevels grammar level top) where
    -- what is told of lower levels alike gives the same
    carried : (R S : ℕ → ℕ → ℕ → ℕ → Type 0) (n : ℕ) →
        ((g o c p : ℕ) → level g o < n → R g o c p → S g o c p) →
        {w : List Letter} {p j : ℕ} {events : List Event} →
        Seq input grammar R w p j events → WordLevel grammar level n w → Seq input grammar S w p j events
    carried R S n told done l = done
    carried R S n told (takes t s) l = takes t (carried R S n told s l.1)
    carried R S n told (stays here t s) l = stays here t (carried R S n told s l.1)
    carried R S n told (calls {h = h} {called = v} is i s) l =
        calls is (carried R S n told i (word_above _ n l.0 v (has.of_graphs h v is))) (carried R S n told s l.1)
    carried R S n told (holds {g = g} {opening = o} {closing = c} {body = v} is i s) l =
        holds is (carried R S n told i (word_above _ n l.0 v (has.of_bodies g o c v is))) (carried R S n told s l.1)
    carried R S n told (refused {g = g} {opening = o} {closing = c} {p = p} r s) l =
        refused (told g o c p l.0 r) (carried R S n told s l.1)

    refused_alike : (n m k : ℕ) → n ≤ m → n ≤ k → (g o c p : ℕ) → level g o < n →
        RefusesBy input grammar m g o c p → RefusesBy input grammar k g o c p
    refused_alike zero m k le le' g o c p lt r = absurd (omega arith)
    refused_alike (suc n) zero k le le' g o c p lt r = absurd (omega arith)
    refused_alike (suc n) (suc m) zero le le' g o c p lt r = absurd (omega arith)
    refused_alike (suc n) (suc m) (suc k) le le' g o c p lt r = λ w j events body s.
        r w j events body
        (carried (RefusesBy input grammar k) (RefusesBy input grammar m) n
        (refused_alike n k m (omega arith) (omega arith)) s
        (word_above (level g o) n (omega arith) w (has.of_bodies g o c w body)))

    same_by_levels : (g n m i j : ℕ) (events : List Event) →
        level g (grammar.graph g).start ≤ n → level g (grammar.graph g).start ≤ m →
        DerBy input grammar n g i j events → DerBy input grammar m g i j events
    same_by_levels g n m i j events a b d = record {
      word = d.word;
      of_graph = d.of_graph;
      seq = carried (RefusesBy input grammar n) (RefusesBy input grammar m)
          (level g (grammar.graph g).start) (refused_alike (level g (grammar.graph g).start) n m a b)
          d.seq (has.of_graphs g d.word d.of_graph);
    }

    pub in_the_end : (g i j : ℕ) (events : List Event) →
        DerBy input grammar top g i j events ↔ Der input grammar g i j events
    in_the_end g i j events =
        let a = has.below g (grammar.graph g).start in (
          λ d. (top, λ m le. same_by_levels g top m i j events (omega arith) (omega arith) d),
          λ e. same_by_levels g (max e.0 top) top i j events (omega arith) (omega arith)
              (e.1 (max e.0 top) (omega arith)),
        )

    by_level : (m g o c i : ℕ) → level g o < m →
        RefusesBy input grammar m g o c i
        ↔ ((w : List Letter) (k : ℕ) (events : List Event) → IsBody g (grammar.graph g) o c w →
        Seq input grammar (RefusesBy input grammar m) w i k events → ⊥)
    by_level zero g o c i lt = absurd (omega arith)
    by_level (suc m) g o c i lt = (
      λ r w k events body s. r w k events body
          (carried (RefusesBy input grammar (suc m)) (RefusesBy input grammar m) m
          (refused_alike m (suc m) m (omega arith) (omega arith)) s
          (word_above (level g o) m (omega arith) w (has.of_bodies g o c w body))),
      λ r w k events body s. r w k events body
          (carried (RefusesBy input grammar m) (RefusesBy input grammar (suc m)) m
          (refused_alike m m (suc m) (omega arith) (omega arith)) s
          (word_above (level g o) m (omega arith) w (has.of_bodies g o c w body))),
    )

    -- a negative context applies exactly where no word of its body does, told at the same level
    pub refuses_iff : (g o c i : ℕ) →
        RefusesBy input grammar top g o c i
        ↔ ((w : List Letter) (k : ℕ) (events : List Event) → IsBody g (grammar.graph g) o c w →
        Seq input grammar (RefusesBy input grammar top) w i k events → ⊥)
    refuses_iff g o c i = by_level top g o c i (has.below g o)
