-- Inputs that take alike derive alike, with contexts of both signs; and what a derivation takes.
use Rattle.std.proofs.Common.{arith, ◌≡◌, ◌≤◌, ◌⊎◌, ℕ, zero, suc, List, [], ◌∷◌, ◌++◌, inl, inr, refl, ◌∙◌, subst, sym}
use Rattle.ux_grf.specs.declared.item.Piece.TheVariants.{Chars, Value}
use Rattle.ux_net.specs.declared.label.Label.{Label}
use Rattle.ux_net.specs.declared.label.Label.TheVariants as label
use Rattle.ux_net.specs.Levels.{HasLevels}
use Rattle.ux_net.specs.Words.{Grammar, Letter, plain, piece}
use Rattle.ux_outputs.specs.declared.event.Event.{Event}
use Rattle.ux_outputs.specs.declared.event.Event.TheVariants as event
use Rattle.ux_meaning.specs.Inputs.{Input}
use Rattle.ux_meaning.specs.Meaning.{Der, RefusesBy, Seq, Stays, calls, done, holds, refused, stays, takes}
use Rattle.ux_meaning.proofs.Levels.{in_the_end}

-- What the one input takes from a position, the other takes from each position that stands for it.
pub record IsAlike (A B : Input) (R : ℕ → ℕ → Type 0) : Type 0 where
  pub over : (x : Label) (p k i : ℕ) → R p i → A.Takes x p k → (j : ℕ) × R k j × B.Takes x i j
  pub unspaced : (p i : ℕ) → R p i → (A.IsSpaceAt p → ⊥) → B.IsSpaceAt i → ⊥

module _ (grammar : Grammar) where
  module _ (A B : Input) (R : ℕ → ℕ → Type 0) (alike : IsAlike A B R) where
    stays_over : (x : Letter) (p i : ℕ) (here : List Event) → R p i → Stays A x p here →
        Stays B x i here
    stays_over (plain label.NoSpace) p i here r s = (alike.unspaced p i r s.0, s.1)
    stays_over (plain (label.Begin name)) p i here r s = s
    stays_over (plain (label.End name)) p i here r s = s
    stays_over (plain label.Cut) p i here r s = s
    stays_over (piece (Chars text)) p i here r s = s
    stays_over (piece (Value name)) p i here r s = s
    stays_over x p i here r s = absurd s

    module _ (Old New : ℕ → ℕ → ℕ → ℕ → Type 0)
        (told : (g o c p i : ℕ) → R p i → Old g o c p → New g o c i) where
      seq_over : {w : List Letter} {p k : ℕ} {events : List Event} →
          Seq A grammar Old w p k events → (i : ℕ) → R p i →
          (j : ℕ) × (later : List Event) × R k j × Seq B grammar New w i j later
      seq_over done i r = (i, [], r, done)
      seq_over (takes {x = x} {p = p} {k = k} t s) i r =
          let a = alike.over x p k i r t in
          let b = seq_over s a.0 a.1 in
          (b.0, event.Take i a.0 ∷ b.1, b.2, takes a.2 b.3)
      seq_over (stays {x = x} {p = p} here t s) i r =
          let b = seq_over s i r in
          (b.0, here ++ b.1, b.2, stays here (stays_over x p i here r t) b.3)
      seq_over (calls is inside s) i r =
          let a = seq_over inside i r in
          let b = seq_over s a.0 a.2 in
          (b.0, a.1 ++ b.1, b.2, calls is a.3 b.3)
      seq_over (holds is inside s) i r =
          let a = seq_over inside i r in
          let b = seq_over s i r in
          (b.0, b.1, b.2, holds is a.3 b.3)
      seq_over (refused {g = g} {opening = o} {closing = c} {p = p} t s) i r =
          let b = seq_over s i r in
          (b.0, b.1, b.2, refused (told g o c p i r t) b.3)

  module _ (A B : Input) (R : ℕ → ℕ → Type 0) (forth : IsAlike A B R)
      (back : IsAlike B A (λ i p. R p i)) where
    mutual
      refuses_forth : (n g o c p i : ℕ) → R p i → RefusesBy A grammar n g o c p →
          RefusesBy B grammar n g o c i
      refuses_forth zero g o c p i r t = t
      refuses_forth (suc n) g o c p i r t = λ w k events body s.
          let v = seq_over B A (λ i p. R p i) back (RefusesBy B grammar n) (RefusesBy A grammar n)
          (λ g o c i p. refuses_back n g o c p i) s p r in
          t w v.0 v.1 body v.3

      refuses_back : (n g o c p i : ℕ) → R p i → RefusesBy B grammar n g o c i →
          RefusesBy A grammar n g o c p
      refuses_back zero g o c p i r t = t
      refuses_back (suc n) g o c p i r t = λ w k events body s.
          let v = seq_over A B R forth (RefusesBy A grammar n) (RefusesBy B grammar n)
          (λ g o c p i. refuses_forth n g o c p i) s i r in
          t w v.0 v.1 body v.3

    -- so a graph derives alike
    pub derives_alike : (level : ℕ → ℕ → ℕ) (top : ℕ) → HasLevels grammar level top →
        (g p k i : ℕ) (events : List Event) → R p i → Der A grammar g p k events →
        (j : ℕ) × R k j × (later : List Event) × Der B grammar g i j later
    derives_alike level top has g p k i events r der =
        let d = (in_the_end A grammar level top has g p k events).1 der in
        let v = seq_over A B R forth (RefusesBy A grammar top) (RefusesBy B grammar top)
        (λ g o c p i. refuses_forth top g o c p i) d.seq i r in (
          v.0,
          v.2,
          v.1,
          (in_the_end B grammar level top has g i v.0 v.1).0 (record {
            word = d.word;
            of_graph = d.of_graph;
            seq = v.3;
          }),
        )

  -- what leads to another position takes something first
  module _ (A : Input) (Refuses : ℕ → ℕ → ℕ → ℕ → Type 0) where
    abbrev pub TakesSome : ℕ → Type 0
    TakesSome p = (x : Label) × (q : ℕ) × A.Takes x p q

    moves : {w : List Letter} {p k : ℕ} {events : List Event} → Seq A grammar Refuses w p k events →
        (p ≡ k) ⊎ TakesSome p
    moves done = inl refl
    moves (takes {x = x} {k = k} t s) = inr (x, k, t)
    moves (stays here t s) = moves s
    moves (calls is inside s) = elim (moves inside) [
      | inl same ↦ elim (moves s) [
        | inl later ↦ inl (same ∙ later)
        | inr some ↦ inr (subst TakesSome (sym same) some)
      ]
      | inr some ↦ inr some
    ]
    moves (holds is inside s) = moves s
    moves (refused t s) = moves s

  pub derives_some : (A : Input) (g p k : ℕ) (events : List Event) → Der A grammar g p k events →
      (p ≡ k) ⊎ ((x : Label) × (q : ℕ) × A.Takes x p q)
  derives_some A g p k events der =
      moves A (RefusesBy A grammar der.0) (der.1 der.0 (reflexive der.0)).seq
    where
      reflexive : (n : ℕ) → n ≤ n
      reflexive n = omega arith
