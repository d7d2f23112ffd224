use Rattle.std.proofs.Common.{arith, ◌+◌, List, sym, subst, take}
use Rattle.ux_dela.specs.declared.entry.Entry.{Entry}
use Rattle.ux_base.proofs.Lists.{take_whole}
use Rattle.ux_inflect.specs.declared.outcomes.Line.{Line}
use Rattle.ux_inflect.specs.Outcomes.{AreEntriesFor}
use Rattle.ux_inflect.proofs.OutcomeLemmas.{entries_more}
use Rattle.ux_inflect.proofs.outcomes.entries_in.Goals as goal

pub loop-line-preserved : goal.loop-line-preserved
loop-line-preserved c =
    subst (λ (l : List Entry). AreEntriesFor c.args.stem.now
    (take (c.loop-line.line-index + 1) c.args.lines.now) l) (sym c.in_ok-push.ensures.items)
    (entries_more c.args.stem.now c.args.lines.now c.loop-line.line-index c.line-item.result
    c.loop-line-test.true c.line-item.is c.loop-line.entries.items c.in_ok-entry.entry
    c.loop-line.invariant c.in_ok-entry.ensures)

pub returns : goal.returns
returns c =
    subst (λ (l : List Line). AreEntriesFor c.args.stem.now l c.loop-line.entries.items)
    (take_whole c.args.lines.now c.loop-line.line-index (omega (arith, c.loop-line-test.false)))
    c.loop-line.invariant
