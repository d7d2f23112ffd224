use Rattle.std.proofs.Common.{rules}
use Rattle.std.specs.Ordering.{is_lt}
use Rattle.std.proofs.lemmas.Fn.{always_returns_same}
use Rattle.std.proofs.lemmas.List.Sorted.{ranks_by}
use Rattle.ux_concordance.specs.declared.line.LentLine.{LentLine}
use Rattle.ux_concordance.specs.Concordance.{line_cmp}
use Rattle.ux_concordance.specs.Lent.{line_of}
use Rattle.ux_concordance.proofs.OrderLemmas.{compared, line_total}
use Rattle.ux_concordance.proofs.order.sort_lines.Goals as goal

pub returns-clause-sorted : goal.returns-clause-sorted
returns-clause-sorted c =
    c.sort_unstable_by.ensures.sorted
    (λ (a b : LentLine). is_lt (line_cmp c.args.sort (line_of a) (line_of b)))
    (ranks_by (line_total c.args.sort) line_of)
    (always_returns_same _ _ _ (λ a r g h.
    compared c.args.sort (line_of a.0.now) (line_of a.1.0.now) r _ (search rules)))
