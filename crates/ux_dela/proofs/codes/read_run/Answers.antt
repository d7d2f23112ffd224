use Rattle.ux_dela.proofs.RunLemmas.{run_on}
use Rattle.ux_dela.proofs.codes.read_run.Goals as goal

pub loop-codes-preserved : goal.loop-codes-preserved
loop-codes-preserved c =
    let next = rw c.in-Some.is at c.in_ok-next.ensures.ok in (
      next.utf8,
      run_on c.args.kind c.args.text.now c.loop-codes.codes c.loop-codes.rest.now
          c.in-Some.next.code.now c.in-Some.next.rest.now c.push_plain.new.texts
          c.loop-codes.invariant.1 next c.in_ok-push_plain.ensures,
    )
