use Rattle.std.proofs.Common.{arith, ◌+◌, length, ap, inl, inr}
use Rattle.std.proofs.lemmas.Result.{err_from_is_err_and}
use Rattle.ux_base.specs.Lines.{lines_of}
use Rattle.ux_dela.specs.Delas.{DelasSays, RefusesDelas}
use Rattle.ux_dela.proofs.CountLemmas.{count_more, count_whole}
use Rattle.ux_dela.proofs.StemExclusionLemmas.{stem_excluded}
use Rattle.ux_base.proofs.EachLineLemmas.{not_refused, read_stops}
use Rattle.ux_base.proofs.LinesLemmas.{lines_of-count}
use Rattle.ux_dela.proofs.counting.count_delas.Goals as goal

-- this line is one of the text's, which are no more than its bytes
pub overflow_add-number : goal.overflow_add-number
overflow_add-number c =
    let left = ap length c.in-Some.ensures.steps in
    omega (arith, left, c.loop-line.invariant.counted.read.counted, lines_of-count c.args.text.now)

-- each line so far says so few
pub overflow_add-count : goal.overflow_add-count
overflow_add-count c =
    let left = ap length c.in-Some.ensures.steps in
    let invariant = c.loop-line.invariant in
    omega (
      arith,
      left,
      invariant.counted.read.counted,
      invariant.few,
      c.in_ok-count.ensures.few,
      lines_of-count c.args.text.now,
    )

pub loop-line-preserved : goal.loop-line-preserved
loop-line-preserved c =
    let says = c.in_ok-count.ensures.ok in
    record {
      next = tt;
      finite = tt;
      counted = count_more DelasSays RefusesDelas (lines_of c.args.text.now) c.loop-line.line-iterator
          c.next.new.self c.loop-line.number c.loop-line.count
          (c.loop-line.count + c.in_ok-count.field-0) c.in-Some.line.now says.0
          c.loop-line.invariant.counted c.in-Some.ensures.steps says.1
          (ap (λ t. c.loop-line.count + t) says.2);
      few = omega (arith, c.loop-line.invariant.few, c.in_ok-count.ensures.few);
    }

pub returns-in_err-count-clause-refused : goal.returns-in_err-count-clause-refused
returns-in_err-count-clause-refused c =
    let p = err_from_is_err_and c.from_residual.result c.from_residual.ensures.1 in
    let counted = c.loop-line.invariant.counted in
    let stops = read_stops DelasSays RefusesDelas (lines_of c.args.text.now) c.loop-line.line-iterator
    c.next.new.self c.loop-line.number c.in-Some.line.now counted.said
    c.in_err-count.field-0.0 counted.read c.in-Some.ensures.steps in
    rw (p.1, p.2) (elim c.in_err-count.ensures.err [
      | inl memory ↦ inl memory
      | inr refuses ↦ inr (stops refuses)
    ])

pub returns-clause-ok : goal.returns-clause-ok
returns-clause-ok c =
    let none = c.in-None.ensures in
    count_whole DelasSays RefusesDelas c.args.text.now c.loop-line.line-iterator c.loop-line.number
    c.loop-line.count c.loop-line.invariant.counted none.steps.0

pub returns-clause-exact : goal.returns-clause-exact
returns-clause-exact c = λ error refuses.
    let none = c.in-None.ensures in
    let whole = count_whole DelasSays RefusesDelas c.args.text.now c.loop-line.line-iterator
    c.loop-line.number c.loop-line.count c.loop-line.invariant.counted none.steps.0 in
    not_refused DelasSays RefusesDelas stem_excluded (lines_of c.args.text.now) 1 whole.said error
    whole.are refuses
