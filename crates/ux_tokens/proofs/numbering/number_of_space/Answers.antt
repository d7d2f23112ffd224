use Rattle.std.proofs.Common.{Some, sym, ◌∙◌, ap}
use Rattle.ux_tokens.specs.Numbers.{texts_in}
use Rattle.ux_tokens.proofs.KnownLemmas.{known_kept}
use Rattle.ux_base.proofs.DistinctLemmas.{with_text-there}
use Rattle.ux_tokens.proofs.numbering.number_of_space.Goals as goal

-- the space has a number, so its text is there
pub returns-in-Some-clause-texts : goal.returns-in-Some-clause-texts
returns-in-Some-clause-texts c =
    let known = rw c.in-Some.is at c.requires.known.space in
    sym (with_text-there (texts_in c.args.numbers.now) c.args.token.now c.in-Some.number
    (known ∙ ap Some (sym c.requires.is)))

pub returns-clause-known : goal.returns-clause-known
returns-clause-known c =
    let kept = known_kept (texts_in c.args.numbers.now) (texts_in c.number_of.new.numbers)
    c.args.token.now c.args.known.now c.in_ok-number.ensures.texts c.requires.known in
    record {
      space = c.in_ok-number.ensures.place ∙ ap Some c.requires.is;
      short = kept.short;
    }
