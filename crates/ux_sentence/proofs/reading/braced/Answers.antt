use Rattle.ux_sentence.proofs.ReadingLemmas.{no_opening, no_closing}
use Rattle.std.proofs.lemmas.Str.Pattern.{strip_prefix_char}
use Rattle.ux_sentence.specs.Written.{OPENING_BRACE}
use Rattle.std.proofs.Common.{arith, Some}
use Rattle.ux_sentence.proofs.reading.braced.Goals as goal

pub returns-in_err-strip_prefix : goal.returns-in_err-strip_prefix
returns-in_err-strip_prefix c =
    rw c.from_residual.ensures
    (no_opening c.args.text.now c.strip_prefix.result c.strip_prefix.ensures.cases
    c.in_err-strip_prefix.was)

pub returns-in_err-body : goal.returns-in_err-body
returns-in_err-body c =
    rw c.from_residual-in_err-body.ensures
    (no_closing c.args.text.now c.in_ok-strip_prefix.field-0.now c.strip_suffix.result
    (strip_prefix_char OPENING_BRACE c.args.text.now (Some c.in_ok-strip_prefix.field-0)
    c.in_ok-strip_prefix.ensures.cases (omega arith)) c.strip_suffix.ensures.cases
    c.in_err-body.was)
