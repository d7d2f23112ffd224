-- Grammars that say the same derive the same, over any input, with contexts of both signs.
use Rattle.std.proofs.Common.{◌≡◌, ℕ, zero, suc, List, [], ◌∷◌, ◌++◌, ◌↔◌}
use Rattle.ux_outputs.specs.declared.event.Event.{Event}
use Rattle.ux_net.specs.Words.{Letter, Grammar, IsWord, IsBody, HasPlace, IsRenumbered, same_plain, same_piece, same_context, AreRenumbered, none, more, SayTheSame}
use Rattle.ux_meaning.specs.Inputs.{Input}
use Rattle.ux_meaning.specs.Meaning.{Stays, Seq, done, takes, stays, calls, holds, refused, RefusesBy, DerBy, Der}

module _ (input : Input) (old new : Grammar) (same : SayTheSame old new) where
  stays_forth : (x y : Letter) (p : ℕ) (here : List Event) → IsRenumbered old same.number x y →
      Stays input x p here → Stays input y p here
  stays_forth x y p here same_plain s = s
  stays_forth x y p here same_piece s = s
  stays_forth x y p here (same_context a b) s = absurd s

  module _ (Old New : ℕ → ℕ → ℕ → ℕ → Type 0)
      (told : (g o c p : ℕ) → HasPlace old g o → HasPlace old g c → Old g o c p → New g (same.number g o) (same.number g c) p) where
    seq_forth : {v w : List Letter} {i j : ℕ} {events : List Event} → Seq input old Old v i j events →
        AreRenumbered old same.number v w → Seq input new New w i j events
    seq_forth done none = done
    seq_forth (takes t s) (more same_plain r) = takes t (seq_forth s r)
    seq_forth (stays {x = x} here t s) (more {y = y} n r) =
        stays here (stays_forth x y _ here n t) (seq_forth s r)
    seq_forth (calls {h = h} {called = called} is inside s) (more same_plain r) =
        let w = same.words h called is in
        calls w.2 (seq_forth inside w.1) (seq_forth s r)
    seq_forth (holds {g = g} {opening = o} {closing = c} {body = body} is inside s) (more (same_context a b) r) =
        let w = same.bodies g o c a b body is in
        holds w.2 (seq_forth inside w.1) (seq_forth s r)
    seq_forth (refused {g = g} {opening = o} {closing = c} {p = p} t s) (more (same_context a b) r) =
        refused (told g o c p a b t) (seq_forth s r)

  stays_back : (x y : Letter) (p : ℕ) (here : List Event) → IsRenumbered old same.number x y →
      Stays input y p here → Stays input x p here
  stays_back x y p here same_plain s = s
  stays_back x y p here same_piece s = s
  stays_back x y p here (same_context a b) s = absurd s

  module _ (Old New : ℕ → ℕ → ℕ → ℕ → Type 0)
      (told : (g o c p : ℕ) → HasPlace old g o → HasPlace old g c → New g (same.number g o) (same.number g c) p → Old g o c p) where
    -- by cases on the numbering, then on what the word derives
    seq_back : {w : List Letter} {i j : ℕ} {events : List Event} → Seq input new New w i j events →
        {v : List Letter} → AreRenumbered old same.number v w → Seq input old Old v i j events
    seq_back done none = done
    seq_back (takes t s) (more same_plain r) = takes t (seq_back s r)
    seq_back (stays {x = y} here t s) (more {x = x} n r) =
        stays here (stays_back x y _ here n t) (seq_back s r)
    seq_back (calls {h = h} {called = called} is inside s) (more same_plain r) =
        let v = same.words_back h called is in
        calls v.2 (seq_back inside v.1) (seq_back s r)
    seq_back (holds {body = body} is inside s) (more (same_context {g = g} {opening = o} {closing = c} a b) r) =
        let v = same.bodies_back g o c a b body is in
        holds v.2 (seq_back inside v.1) (seq_back s r)
    seq_back (refused {p = p} t s) (more (same_context {g = g} {opening = o} {closing = c} a b) r) =
        refused (told g o c p a b t) (seq_back s r)

  mutual
    refuses_forth : (n g o c p : ℕ) → HasPlace old g o → HasPlace old g c →
        RefusesBy input old n g o c p → RefusesBy input new n g (same.number g o) (same.number g c) p
    refuses_forth zero g o c p a b t = t
    refuses_forth (suc n) g o c p a b t = λ w k events body s.
        let v = same.bodies_back g o c a b w body in
        t v.0 k events v.2 (seq_back (RefusesBy input old n) (RefusesBy input new n)
        (refuses_back n) s v.1)

    refuses_back : (n g o c p : ℕ) → HasPlace old g o → HasPlace old g c →
        RefusesBy input new n g (same.number g o) (same.number g c) p → RefusesBy input old n g o c p
    refuses_back zero g o c p a b t = t
    refuses_back (suc n) g o c p a b t = λ v k events body s.
        let w = same.bodies g o c a b v body in
        t w.0 k events w.2 (seq_forth (RefusesBy input old n) (RefusesBy input new n)
        (refuses_forth n) s w.1)

  pub same_derivations : (n g i j : ℕ) (events : List Event) →
      DerBy input old n g i j events ↔ DerBy input new n g i j events
  same_derivations n g i j events = (
    λ d.
        let w = same.words g d.word d.of_graph in
        record {
          word = w.0;
          of_graph = w.2;
          seq = seq_forth (RefusesBy input old n) (RefusesBy input new n) (refuses_forth n) d.seq w.1;
        },
    λ d.
        let v = same.words_back g d.word d.of_graph in
        record {
          word = v.0;
          of_graph = v.2;
          seq = seq_back (RefusesBy input old n) (RefusesBy input new n) (refuses_back n) d.seq v.1;
        },
  )

  -- the law: grammars that say the same derive the same
  pub same_meaning : (g i j : ℕ) (events : List Event) →
      Der input old g i j events ↔ Der input new g i j events
  same_meaning g i j events = (
    λ d. (d.0, λ m le. (same_derivations m g i j events).0 (d.1 m le)),
    λ d. (d.0, λ m le. (same_derivations m g i j events).1 (d.1 m le)),
  )
