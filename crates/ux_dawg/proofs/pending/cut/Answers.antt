use Rattle.std.proofs.Common.{arith, ◌≡◌, length, subst}
use Rattle.ux_dawg.specs.Building.{IsCut}
use Rattle.ux_dawg.proofs.StepLemmas.{cut_step, closed_less}
use Rattle.ux_dawg.proofs.pending.cut.Goals as goal

pub close-requires-clause-fit : goal.close-requires-clause-fit
close-requires-clause-fit c = c.loop-register.invariant.0.sound.fit

pub loop-register-preserved : goal.loop-register-preserved
loop-register-preserved c =
    let long = closed_less _ _ _ _ _ _ c.in_ok-top.ensures in (
      cut_step c.args.register.now c.args.pending.now.above.items c.args.top _ _ _ _ _ _
          c.loop-register.invariant.0 c.in_ok-top.ensures,
      omega (arith, long),
    )

pub returns : goal.returns
returns c =
    let depth : length c.loop-register.pending.above.items ≡ c.args.depth = omega arith in
    subst (λ n. IsCut c.args.register.now c.args.pending.now.above.items c.args.top
    c.loop-register.register c.loop-register.pending.above.items c.loop-register.top n)
    depth c.loop-register.invariant.0
