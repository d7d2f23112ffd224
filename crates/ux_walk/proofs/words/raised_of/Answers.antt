use Rattle.std.proofs.Common.{◌≡◌, ◌+◌, ◌++◌, ◌∷◌, [], Bor, List, ℕ, map, subst, sym, arith}
use Rattle.std.proofs.lemmas.Grind.{common_steps}
use Rattle.ux_walk.specs.Literals.{AreRaised}
use Rattle.ux_walk.proofs.RaisedLemmas.{AreRaisedBefore, raised_all, raised_listed, raised_plain}
use Rattle.ux_walk.proofs.words.raised_of.Goals as goal
use Rattle.ux_walk.proofs.words.raised_of.Goals.{then-not-is_plain+in_ok-push, else-not-is_plain}

pub loop-number-preserved : goal.loop-number-preserved
loop-number-preserved c =
    let alphabet = c.args.alphabet.now in
    let slices = c.as_slice-texts.result.now in
    let number = c.loop-number.number in
    let raised : List ℕ = c.loop-number.raised.items in
    elim c.if-not-is_plain.branch [
      | then-not-is_plain+in_ok-push w ↦
          let grown : c.if-not-is_plain.raised.items ≡ raised ++ number ∷ [] =
          cc (w.in_ok-push.ensures.items) in
          subst (AreRaisedBefore alphabet slices (number + 1)) (sym {A = List ℕ} grown)
          (raised_listed alphabet slices number raised c.loop-number.invariant)
      | else-not-is_plain w ↦
          let same : c.if-not-is_plain.raised.items ≡ raised = cc in
          subst (AreRaisedBefore alphabet slices (number + 1)) (sym {A = List ℕ} same)
          (raised_plain alphabet slices number raised _
          (c.is_plain.ensures w.if-not-is_plain.false) c.loop-number.invariant)
    ]

pub returns : goal.returns
returns c =
    let alphabet = c.args.alphabet.now in
    let raised : List ℕ = c.loop-number.raised.items in
    subst (λ (l : List (Bor (List ℕ))). AreRaised alphabet (map (λ (s : Bor (List ℕ)). s.now) l)
    raised) c.as_slice-texts.ensures.keys
    (raised_all alphabet c.as_slice-texts.result.now c.loop-number.number raised
    c.loop-number-test.false c.loop-number.invariant)

pub overflow_cast-number : goal.overflow_cast-number
overflow_cast-number c = grind (arith, common_steps)
