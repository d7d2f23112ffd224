use Rattle.std.proofs.Common.{List, ℕ, subst, arith}
use Rattle.std.specs.Prelude.{All}
use Rattle.std.proofs.lemmas.List.{take_all}
use Rattle.ux_alphabet.specs.Letters.{FitsAlone}
use Rattle.ux_image_look_ups.proofs.FoundLemmas.{alone-more}
use Rattle.ux_image_look_ups.proofs.ends.fit_alone.Goals as goal

pub loop-c-preserved : goal.loop-c-preserved
loop-c-preserved c =
    alone-more c.args.alphabet.now c.args.letters.now c.loop-c.c-index c.c-item.result
    c.loop-c-test.true c.c-item.is c.loop-c.invariant
    (c.fits_alone.ensures.0 c.if-not-fits_alone.false)

pub returns : goal.returns
returns c all =
    subst (λ (l : List ℕ). All (FitsAlone c.args.alphabet.now) l)
    (take_all c.loop-c.c-index c.args.letters.now (omega (arith, c.loop-c-test.false)))
    c.loop-c.invariant
