use Rattle.std.proofs.Common.{◌≡◌, sym, ◌∙◌, ap}
use Rattle.std.specs.Fmt.{decimal}
use lib.Pointwise.{bytes_decides}
use Rattle.std.proofs.lemmas.Bool.{both_ways}
use Rattle.std.proofs.lemmas.Fmt.{parse-decimal}
use Rattle.ux_sentence.proofs.NumbersLemmas.{parsed_same}
use Rattle.ux_sentence.proofs.number.number.Goals as goal

-- what isn't parsed is no number
pub returns-in_default-clause-value : goal.returns-in_default-clause-value
returns-in_default-clause-value c = λ n small is.
    c.in_default.not-Ok n
    (parse-decimal 64 n c.args.text.now c.parse.result small small is c.parse.ensures.value.0)

-- what is parsed and not printed is none
pub returns-else-eq-clause-value : goal.returns-else-eq-clause-value
returns-else-eq-clause-value c = λ n small is.
    let same = parsed_same n c.in-Ok.value c.args.text.now c.parse.result small is
    c.parse.ensures.value.0 c.in-Ok.is in
    let written : c.format.result.now ≡ c.args.text.now =
    c.format.ensures.text ∙ ap decimal (sym same) ∙ sym is in
    both_ways _ (sym c.if-eq.ensures)
    ((bytes_decides c.format.result.now c.args.text.now).1 written)
