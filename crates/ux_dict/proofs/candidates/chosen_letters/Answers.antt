use Rattle.std.proofs.Common.{List, ℕ, [], sym, subst, refl, arith, ap, ◌∙◌}
use Rattle.ux_alphabet.specs.Letters.{Fits}
use Rattle.ux_dict.specs.Forms.{IsChosen, none}
use Rattle.ux_dict.proofs.ChosenLemmas.{chosen-more, chosen-skip, chosen-end}
use Rattle.ux_dict.proofs.candidates.chosen_letters.Goals as goal
use Rattle.ux_dict.proofs.candidates.chosen_letters.Goals.{then-fits+in_ok-push, else-fits}

pub loop-letter-init : goal.loop-letter-init
loop-letter-init c =
    subst (λ (l : List ℕ). IsChosen (λ letter. Fits c.args.alphabet.now letter c.args.c) [] l)
    (sym c.new-found.ensures.items) none

pub loop-letter-preserved : goal.loop-letter-preserved
loop-letter-preserved c =
    let P = λ (letter : ℕ). Fits c.args.alphabet.now letter c.args.c in
    elim c.if-fits.branch [
      | then-fits+in_ok-push w ↦ chosen-more P c.args.letters.now c.loop-letter.found.items
          c.if-fits.found.items c.loop-letter.letter-index c.letter-item.result (omega arith)
          c.letter-item.is (w.if-fits.ensures.0 refl)
          (ap (λ f. f.items) w.found-is ∙ w.in_ok-push.ensures.items) c.loop-letter.invariant
      | else-fits w ↦ chosen-skip P c.args.letters.now c.loop-letter.found.items
          c.if-fits.found.items c.loop-letter.letter-index c.letter-item.result (omega arith)
          c.letter-item.is (λ fits. let t = w.if-fits.ensures.1 fits in cc)
          (ap (λ f. f.items) w.found-is) c.loop-letter.invariant
    ]

pub returns : goal.returns
returns c =
    chosen-end _ c.args.letters.now c.loop-letter.found.items c.loop-letter.letter-index
    (omega arith) c.loop-letter.invariant
