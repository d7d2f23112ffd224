use Rattle.std.proofs.Common.{ℕ, refl, subst, ◌∙◌}
use Rattle.ux_grf.specs.Boxes.{Stamped}
use Rattle.ux_grf.proofs.TargetsLemmas.{firsts_more}
use Rattle.ux_grf.proofs.targets.each_once.Goals as goal

-- one target more
pub loop-target-preserved : goal.loop-target-preserved
loop-target-preserved c =
    let i = c.loop-target.invariant in
    let kept = c.in_ok-keep.ensures in (
      firsts_more c.args.targets.now c.loop-target.kept.items c.keep.new.kept.items
          c.loop-target.target-index _ c.loop-target-test.true refl i.0 kept.kept,
      kept.len ∙ i.1,
      subst (λ (n : ℕ). Stamped n c.args.stamp c.keep.new.stamps.items c.keep.new.kept.items) i.1
          kept.stamped,
    )
