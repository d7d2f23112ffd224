use Rattle.std.proofs.Common.{arith, Some, sym, ◌∙◌}
use Rattle.std.specs.Prelude.{codes}
use lib.Pointwise.{bytes_decides}
use Rattle.std.proofs.lemmas.Bool.{both_ways}
use Rattle.ux_sentence.proofs.OpeningLemmas.{strip_prefix_text, wrong_number, opening_said}
use Rattle.ux_sentence.proofs.sentence_line.read_opening.Goals as goal

pub returns-then-found-from : goal.returns-then-found-from
returns-then-found-from c =
    wrong_number c.args.expected c.in_ok-found.found c.args.line.now
    c.in_ok-strip_prefix.field-0.now c.in_ok-found.behind.now (omega arith)
    c.in_ok-found.ensures.fits
    (strip_prefix_text (codes "S ") c.args.line.now (Some c.in_ok-strip_prefix.field-0)
    c.in_ok-strip_prefix.ensures.cases) c.in_ok-found.ensures.value
    (λ e. c.if-found-from.true (e ∙ sym c.from.ensures))

pub returns : goal.returns
returns c =
    opening_said c.args.expected c.in_ok-found.found c.args.line.now
    c.in_ok-strip_prefix.field-0.now c.in_ok-found.behind.now c.counts.result (omega arith)
    c.in_ok-found.ensures.fits
    (strip_prefix_text (codes "S ") c.args.line.now (Some c.in_ok-strip_prefix.field-0)
    c.in_ok-strip_prefix.ensures.cases) c.in_ok-found.ensures.value
    (c.if-found-from.false ∙ c.from.ensures)
    (λ e. both_ways _ (sym c.if-eq.ensures)
    ((bytes_decides c.in_ok-found.behind.now (codes "EMPTY")).1 e)) c.counts.ensures
