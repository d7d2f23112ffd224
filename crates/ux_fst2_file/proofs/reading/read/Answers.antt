use Rattle.std.proofs.Common.{arith, ap, inr}
use Rattle.std.proofs.lemmas.Result.{err_from_is_err_and}
use Rattle.ux_fst2_file.specs.Files.{line_count}
use Rattle.ux_fst2_file.proofs.PartsLemmas.{no_count, no_graphs}
use Rattle.ux_fst2_file.proofs.reading.read.Goals as goal

pub returns-in_err-count-clause-err : goal.returns-in_err-count-clause-err
returns-in_err-count-clause-err c =
    let p = err_from_is_err_and c.from_residual.result c.from_residual.ensures.1 in
    rw (p.1, p.2)
    (inr (no_count c.args.text.now c.of-cursor.result.lines c.of-cursor.ensures.lines _
    c.in_err-count.ensures.err))

pub returns-in_err-graphs-clause-err : goal.returns-in_err-graphs-clause-err
returns-in_err-graphs-clause-err c =
    let p = err_from_is_err_and c.from_residual-in_err-graphs.result
    c.from_residual-in_err-graphs.ensures.1 in
    rw (p.1, p.2) (no_graphs c.args.text.now c.of-cursor.result.lines c.of-cursor.ensures.lines
    c.in_ok-count.count c.read_first.new.cursor.lines c.in_ok-count.ensures.ok.0
    c.read_first.new.cursor.number _
    (omega (arith, c.in_ok-count.ensures.ok.1, c.of-cursor.ensures.number))
    c.in_err-graphs.ensures.err)

pub invariant_of-result : goal.invariant_of-result
invariant_of-result c =
    let graphs = c.in_ok-graphs.ensures.ok.counted in
    let cursor = c.read_graphs.new.cursor in
    let first = c.in_ok-count.ensures.ok.1 in
    record {
      counted = omega (
        arith,
        graphs,
        cursor.counted,
        first,
        c.of-cursor.ensures.number,
        ap line_count c.new.ensures,
      );
    }
