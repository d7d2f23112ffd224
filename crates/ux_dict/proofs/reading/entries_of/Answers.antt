use Rattle.std.proofs.Common.{arith, length, ap, inl, inr}
use Rattle.std.proofs.lemmas.Result.{err_from_is_err_and}
use Rattle.ux_base.specs.Lines.{lines_of}
use Rattle.ux_dela.specs.Delaf.{DelafSays, RefusesDelaf}
use Rattle.ux_base.proofs.EachLineLemmas.{read_more, read_stops, read_whole}
use Rattle.ux_base.proofs.LinesLemmas.{lines_of-count}
use Rattle.ux_dict.proofs.reading.entries_of.Goals as goal

-- this line is one of the text's, which are no more than its bytes
pub overflow_add-number : goal.overflow_add-number
overflow_add-number c =
    let left = ap length c.in-Some.ensures.steps in
    omega (arith, left, c.loop-line.invariant.read.counted, lines_of-count c.args.text.now)

pub loop-line-preserved : goal.loop-line-preserved
loop-line-preserved c = record {
  next = tt;
  finite = tt;
  read = read_more DelafSays RefusesDelaf (lines_of c.args.text.now) c.loop-line.line-iterator
      c.next.new.self c.loop-line.number c.in-Some.line.now c.loop-line.kept.items
      c.put_line.new.kept.items c.in_ok-put_line.ensures.put.said c.loop-line.invariant.read
      c.in-Some.ensures.steps c.in_ok-put_line.ensures.put.says c.in_ok-put_line.ensures.put.put;
}

pub returns-in_err-put_line-clause-refused : goal.returns-in_err-put_line-clause-refused
returns-in_err-put_line-clause-refused c =
    let p = err_from_is_err_and c.from_residual.result c.from_residual.ensures.1 in
    let stops = read_stops DelafSays RefusesDelaf (lines_of c.args.text.now)
    c.loop-line.line-iterator c.next.new.self c.loop-line.number c.in-Some.line.now
    c.loop-line.kept.items c.in_err-put_line.field-0.0 c.loop-line.invariant.read
    c.in-Some.ensures.steps in
    rw (p.1, p.2) (elim c.in_err-put_line.ensures.refused [
      | inl memory ↦ inl memory
      | inr refuses ↦ inr (stops refuses)
    ])

pub returns-clause-ok : goal.returns-clause-ok
returns-clause-ok c =
    let none = c.in-None.ensures in
    read_whole DelafSays RefusesDelaf (lines_of c.args.text.now) c.loop-line.line-iterator
    c.loop-line.number c.loop-line.kept.items c.loop-line.invariant.read none.steps.0
