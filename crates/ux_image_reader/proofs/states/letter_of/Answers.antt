use Rattle.std.proofs.Common.{true, false, ◌≡◌, ◌∙◌, sym, subst}
use Rattle.ux_image_reader.specs.Reading.{letters_of, IsAbove}
use Rattle.ux_image_reader.proofs.states.letter_of.Goals as goal
use Rattle.ux_image_reader.proofs.states.letter_of.Goals.{then-letter-eq10-via-then-letter-eq10, then-letter-eq10-via-else-letter-eq10+then-not-is_above}

pub returns-then-letter-eq10 : goal.returns-then-letter-eq10
returns-then-letter-eq10 c =
    let is = c.in_ok-letter.ensures.value.1 in
    elim c.then-letter-eq10.branch [
      | then-letter-eq10-via-then-letter-eq10 w ↦
          λ next. next.0.1 (sym is ∙ w.if-letter-eq10.true)
      | then-letter-eq10-via-else-letter-eq10+then-not-is_above w ↦
          λ next.
          let above = w.is_above.ensures.1
          (subst (IsAbove (letters_of c.args.before.now)) (sym is) next.1) in
          let both : true ≡ false = sym above ∙ w.if-not-is_above.true in
          cc
    ]
