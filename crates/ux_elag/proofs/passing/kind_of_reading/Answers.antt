use Rattle.std.proofs.Common.{subst, sym}
use Rattle.std.proofs.lemmas.Result.{IfOk-weaker}
use Rattle.ux_elag.specs.Ready.{ArePassed}
use Rattle.ux_elag.proofs.passing.kind_of_reading.Goals as goal

pub returns-clause-kind : goal.returns-clause-kind
returns-clause-kind c =
    let passed = subst (ArePassed c.args.steps.now c.args.reading.now)
    (sym c.as_slice.ensures.value)
    c.in_ok-tests.ensures in
    IfOk-weaker c.kind_of.result _ _ (λ number is. record {
      inside = is.inside;
      passed = λ test. (
        λ has. (passed test).0 ((is.exact test).0 has),
        λ passes. (is.exact test).1 ((passed test).1 passes),
      );
    }) c.kind_of.ensures.kind
