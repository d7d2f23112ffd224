use Rattle.std.proofs.lemmas.Result.{err_from_is_err_and}
use Rattle.ux_plan.proofs.PlanSteps.{comes_gives, comes_test, comes_then, halts_second, halts_test}
use Rattle.ux_boxes.specs.Refusing.{drawn}
use Rattle.ux_grammars.proofs.compiling.read_kind_net.Goals as goal

-- the graphs were read, and are refused
pub returns-in_err-net-clause-err : goal.returns-in_err-net-clause-err
returns-in_err-net-clause-err g c =
    let r = c.from_residual-in_err-net in
    let p = err_from_is_err_and r.result r.ensures.1 in
    let read = c.in_ok-graphs.ensures in
    rw (p.1, p.2) (halts_second _ _ _ _ _ _ _ read.ok read.later
    (halts_test _ _ _ _ _ _ c.in_err-net.ensures.err))

pub returns-clause-ok : goal.returns-clause-ok
returns-clause-ok g c =
    let net = c.in_ok-net.ensures in
    record {
      graphs = drawn c.in_ok-graphs.graphs.items;
      comes = comes_then _ _ _ _ _ c.in_ok-graphs.ensures.ok
          (comes_test _ _ _ _ _ net.compilable (comes_gives _ _ _));
      compiles = net.compiles;
    }
