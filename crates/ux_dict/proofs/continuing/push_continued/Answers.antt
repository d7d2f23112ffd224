use Rattle.std.proofs.Common.{List, ℕ, subst, arith}
use Rattle.std.proofs.lemmas.List.{take_all}
use Rattle.ux_dict.specs.Parts.{IsContinued}
use Rattle.ux_dict.proofs.ContinuedLemmas.{IsContinued-start, IsContinued-more}
use Rattle.ux_dict.proofs.continuing.push_continued.Goals as goal

pub loop-letter-init : goal.loop-letter-init
loop-letter-init c front is = IsContinued-start front c.args.part.now c.args.parts.now.items

pub loop-letter-preserved : goal.loop-letter-preserved
loop-letter-preserved c front is =
    IsContinued-more front c.args.part.now c.args.letters.now c.loop-letter.letter-index
    c.letter-item.result (omega arith) c.letter-item.is c.requires is c.args.parts.now.items
    c.loop-letter.parts.items c.push_letter.new.parts.items (c.loop-letter.invariant front is)
    (c.in_ok-push_letter.ensures front is)

pub returns : goal.returns
returns c front is =
    subst (λ (l : List ℕ). IsContinued front l c.args.part.now c.args.parts.now.items
    c.loop-letter.parts.items)
    (take_all c.loop-letter.letter-index c.args.letters.now (omega arith))
    (c.loop-letter.invariant front is)
