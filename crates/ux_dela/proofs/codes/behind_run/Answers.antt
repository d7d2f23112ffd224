use Rattle.std.proofs.Common.{refl, ◌∷◌, ◌++◌, []}
use Rattle.ux_dela.specs.Written.{meant}
use Rattle.ux_dela.specs.Reading.{characters}
use Rattle.ux_dela.proofs.RunLemmas.{run_on}
use Rattle.ux_dela.proofs.codes.behind_run.Goals as goal

pub loop-next-preserved : goal.loop-next-preserved
loop-next-preserved c =
    let next = rw c.in-Some.is at c.in_ok-next.ensures.ok in
    let run = c.loop-next.invariant.1 in
    let code = c.in-Some.next.code.now in (
      next.utf8,
      (
        run.0 ++ meant (characters code) ∷ [],
        run_on c.args.kind c.args.text.now run.0 c.loop-next.rest.now code c.in-Some.next.rest.now
            (run.0 ++ meant (characters code) ∷ []) run.1 next refl,
      ),
    )
