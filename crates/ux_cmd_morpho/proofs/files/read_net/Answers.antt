use Rattle.std.proofs.lemmas.Result.{err_from_is_err_and}
use Rattle.ux_plan.proofs.PlanSteps.{comes_gives, comes_test, comes_then, halts_second, halts_test}
use Rattle.ux_cmd_morpho.proofs.ReadingLemmas.{good_marks, marks_stop}
use Rattle.ux_cmd_morpho.proofs.files.read_net.Goals as goal

-- the graphs were read, and their marks are refused
pub returns-in_err-keep_marks-clause-err : goal.returns-in_err-keep_marks-clause-err
returns-in_err-keep_marks-clause-err g c =
    let r = c.from_residual-in_err-keep_marks in
    let p = err_from_is_err_and r.result r.ensures.1 in
    let net = c.in_ok-net.ensures in
    rw (p.1, p.2) (halts_second _ _ _ _ _ _ _ net.ok.comes net.later
    (halts_test _ _ _ _ _ _ (marks_stop c.args.alphabet.now net.ok.graphs c.in_ok-net.net
    net.ok.compiles.states c.args.word.now c.in_err-keep_marks.field-0.0
    c.in_err-keep_marks.ensures.err)))

pub returns-clause-ok : goal.returns-clause-ok
returns-clause-ok g c =
    let net = c.in_ok-net.ensures in
    let good = good_marks c.args.alphabet.now net.ok.graphs c.in_ok-net.net net.ok.compiles.states
    c.in_ok-keep_marks.ensures.ok in
    record {
      graphs = net.ok.graphs;
      comes = comes_then _ _ _ _ _ net.ok.comes (comes_test _ _ _ _ _ good (comes_gives _ _ _));
      compiles = net.ok.compiles;
    }
