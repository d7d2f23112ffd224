use Rattle.std.proofs.Common.{subst, sym}
use Rattle.ux_concordance.proofs.LinesLemmas.{lines_concordance, lines_filled}
use Rattle.ux_concordance.specs.Lent.{AreFilled}
use Rattle.ux_concordance.proofs.concordance.concord.Goals as goal

pub returns : goal.returns
returns c =
    let made = c.in_ok-lines.lines.items in
    let sorted = c.sort_lines.new.lines.items in
    let moved = c.sort_lines.ensures.same in
    let lines = c.in_ok-lines.ensures in
    let value = c.as_slice.ensures.value in
    let filled =
    lines_filled c.args.text.now c.args.left c.args.right c.args.hits.now made lines sorted
    moved in
    lines_concordance c.args.text.now c.args.left c.args.right c.args.hits.now made lines
    c.args.sort
    sorted _ moved c.sort_lines.ensures.sorted
    (rw value at (c.in_ok-write_lines.ensures c.args.left
    (subst (AreFilled c.args.left) (sym value) filled)))
