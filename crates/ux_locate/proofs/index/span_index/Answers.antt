use Rattle.std.proofs.Common.{sym, arith}
use Rattle.std.proofs.lemmas.Grind.{common_steps}
use Rattle.ux_outputs.specs.declared.span.Span.{Span}
use Rattle.ux_locate.proofs.IndexLemmas.{spans_more}
use Rattle.ux_locate.proofs.index.span_index.Goals as goal

pub loop-span-preserved : goal.loop-span-preserved
loop-span-preserved c =
    let none : Span = record { first = 0; last = 0 } in
    let more =
    spans_more c.args.text.now c.args.spans.now c.loop-span.span-index none c.loop-span-test.true in
    rw (c.in_ok-push_line.ensures, c.loop-span.invariant, c.slice-found.ensures) (sym more)

pub returns : goal.returns
returns c = grind (arith, common_steps)
