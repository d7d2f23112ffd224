use Rattle.std.proofs.Common.{refl}
use Rattle.ux_grf.proofs.EndsLemmas.{fault_end}
use Rattle.ux_grf.proofs.content.read_in_box.Goals as goal

pub count_before-requires : goal.count_before-requires
count_before-requires c =
    fault_end c.args.content.now c.in-Err-At.left.now
    (rw c.in-Err-At.field-0-is at c.in-Err-At.ensures.bad)

pub returns-in-Err-At-clause-err : goal.returns-in-Err-At-clause-err
returns-in-Err-At-clause-err c =
    let bad = rw c.in-Err-At.field-0-is at c.in-Err-At.ensures.bad in
    let end = fault_end c.args.content.now c.in-Err-At.left.now bad in (
      refl,
      record {
        front = end.0;
        left = c.in-Err-At.left.now;
        whole = end.1;
        fault = bad;
        count = c.count_before.ensures end.0 end.1;
      },
    )
