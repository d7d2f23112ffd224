use Rattle.std.proofs.Common.{Some, sym, ◌∙◌, ap}
use Rattle.ux_tokens.specs.Numbers.{texts_in}
use Rattle.ux_tokens.proofs.KnownLemmas.{known_kept}
use Rattle.ux_base.proofs.DistinctLemmas.{with_text-there}
use Rattle.ux_tokens.proofs.numbering.number_of_short.Goals as goal

-- the text has a number, so it is there
pub returns-in-Some-clause-texts : goal.returns-in-Some-clause-texts
returns-in-Some-clause-texts c =
    let texts = texts_in c.args.numbers.now in
    sym (with_text-there texts c.args.token.now c.in-Some.number
    (c.in-Some.ensures texts c.requires.known ∙ ap Some c.requires.is))

pub returns-in-Some-clause-place : goal.returns-in-Some-clause-place
returns-in-Some-clause-place c =
    c.in-Some.ensures (texts_in c.args.numbers.now) c.requires.known ∙ ap Some c.requires.is

pub returns-clause-known : goal.returns-clause-known
returns-clause-known c =
    let texts = texts_in c.number_of.new.numbers in
    c.put.ensures texts
    (known_kept (texts_in c.args.numbers.now) texts c.args.token.now c.args.known.now
    c.in_ok-number.ensures.texts c.requires.known)
    (c.in_ok-number.ensures.place ∙ ap Some (sym c.requires.is))
