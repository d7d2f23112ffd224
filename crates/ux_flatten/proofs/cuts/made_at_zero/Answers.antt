use Rattle.std.proofs.Common.{arith, ◌≡◌, ◌-◌, suc, subst}
use Rattle.ux_flatten.specs.Cutting.{AreMade}
use Rattle.ux_flatten.specs.Making.{has_word}
use Rattle.ux_flatten.proofs.CutsLaw.{made_deeper, made_first}
use Rattle.ux_flatten.proofs.cuts.made_at_zero.Goals as goal

pub loop-left-init : goal.loop-left-init
loop-left-init c =
    let source = c.args.source.now in
    record {
      most = omega arith;
      are = made_first source.graphs.items (has_word source) c.requires.tells c.args.negative.now
          c.requires.negative c.args.depth c.in_ok-made.made c.in_ok-made.ensures.copies
          c.in_ok-made.ensures.negative;
    }

pub loop-left-preserved : goal.loop-left-preserved
loop-left-preserved c =
    let source = c.args.source.now in
    let left = c.loop-left.left in
    let most = c.loop-left.invariant.most in
    let same : left ≡ suc (left - 1) = omega (arith, c.loop-left-test.true) in
    record {
      most = omega (arith, most);
      are = made_deeper source.graphs.items (has_word source) c.requires.tells c.args.negative.now
          c.requires.negative c.args.depth (left - 1) c.loop-left.made c.in_ok-made-2.made
          (omega (arith, most, c.loop-left-test.true))
          (subst (λ n. AreMade source.graphs.items c.args.depth n c.loop-left.made) same
          c.loop-left.invariant.are) c.in_ok-made-2.ensures.copies c.in_ok-made-2.ensures.negative;
    }
