use Rattle.std.proofs.Common.{rules, ℕ, Option, length, subst, sym}
use Rattle.std.specs.Prelude.{IsTrue}
use Rattle.ux_dawg.specs.Listed.{ending}
use Rattle.ux_image_lexicon.specs.Summing.{IsSumOf}
use Rattle.ux_image_lexicon.proofs.ApartLemmas.{apart_at}
use Rattle.ux_image_lexicon.proofs.SummingLemmas.{sum_ending}
use Rattle.ux_image_lexicon.specs.declared.sums.Sum.{Sum}
use Rattle.ux_image_lexicon.proofs.sums.ending.Goals as goal

pub returns-in-Some : goal.returns-in-Some
returns-in-Some c =
    let lists = c.args.lists.now in
    let n = c.in-Some.number in
    let sum : Sum = record { codes = length c.codes_at.result.now; apart = c.flag_at.result } in
    subst (λ (o : Option ℕ). IsSumOf lists (ending o) sum) (sym c.in-Some.is)
    (sum_ending lists n c.codes_at.result.now c.flag_at.result c.codes_at.ensures (search rules)
    (λ flag. apart_at lists c.args.apart.now c.requires n (subst IsTrue c.flag_at.ensures flag)))
