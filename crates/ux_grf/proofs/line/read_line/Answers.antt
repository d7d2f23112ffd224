use Rattle.std.proofs.Common.{arith, sym, ap, List, ℕ, length}
use Rattle.std.proofs.lemmas.Result.{err_from_is_err_and, IfOk-weaker, MatchResult-weaker}
use Rattle.ux_grf.proofs.LinesLemmas.{marked_line, stops_mark, items_line, stops_items, without_front-length}
use Rattle.ux_grf.proofs.line.read_line.Goals as goal

pub returns-then-begins_with_mark-clause-line : goal.returns-then-begins_with_mark-clause-line
returns-then-begins_with_mark-clause-line c =
    IfOk-weaker c.read_marked.result _ _
    (λ line h. marked_line c.args.kind c.args.text.now c.skip_blanks-front.result.now
    c.skip_blanks-front.ensures line.items.items line.after.now
    (sym c.if-begins_with_mark.ensures) h)
    c.read_marked.ensures.line

pub returns-then-begins_with_mark-clause-shorter :
    goal.returns-then-begins_with_mark-clause-shorter
returns-then-begins_with_mark-clause-shorter c =
    IfOk-weaker c.read_marked.result _ _
    (λ line h. omega (
      arith,
      without_front-length c.args.text.now,
      ap (λ (t : List ℕ). length t)
          c.skip_blanks-front.ensures,
    ))
    c.read_marked.ensures.shorter

pub returns-then-begins_with_mark-clause-bad : goal.returns-then-begins_with_mark-clause-bad
returns-then-begins_with_mark-clause-bad c =
    MatchResult-weaker c.read_marked.result c.read_marked.ensures.bad (λ line h. h)
    (λ e h. stops_mark c.args.kind c.args.text.now c.skip_blanks-front.result.now c.skip_blanks-front.ensures e
    (sym c.if-begins_with_mark.ensures) h)

pub returns-in_err-line-clause-bad : goal.returns-in_err-line-clause-bad
returns-in_err-line-clause-bad c =
    let p = err_from_is_err_and c.from_residual.result c.from_residual.ensures.1 in
    rw (p.1, p.2)
    (stops_items c.args.kind c.args.text.now c.skip_blanks-front.result.now c.skip_blanks-front.ensures _
    (sym c.if-begins_with_mark.ensures) c.in_err-line.ensures.bad)

pub returns-clause-line : goal.returns-clause-line
returns-clause-line c =
    items_line c.args.kind c.args.text.now c.skip_blanks-front.result.now c.skip_blanks-front.ensures
    c.in_ok-line.line.items.items c.in_ok-fill_empty.field-0.items c.in_ok-line.line.after.now
    (sym c.if-begins_with_mark.ensures) c.in_ok-line.ensures.line c.in_ok-fill_empty.ensures

pub returns-clause-ends : goal.returns-clause-ends
returns-clause-ends c = c.in_ok-line.ensures.ends
