use Rattle.std.proofs.Common.{sym, ◌∙◌, ap, arith}
use Rattle.std.proofs.lemmas.Grind.{common_steps}
use Rattle.ux_grf.specs.Lines.{without_back}
use Rattle.ux_grf.proofs.BlanksLemmas.{without_back-more, without_back-all}
use Rattle.ux_grf.proofs.marked.trimmed.Goals as goal

pub loop-front-preserved : goal.loop-front-preserved
loop-front-preserved c = (
  c.before-front.utf8,
  ap without_back c.before-front.ensures
      ∙ (without_back-more c.loop-front.front.now (sym c.loop-front-test.ensures)
      ∙ c.loop-front.invariant.1),
)

pub returns : goal.returns
returns c =
    sym (without_back-all c.loop-front.front.now (sym c.loop-front-test.ensures))
    ∙ c.loop-front.invariant.1

pub overflow_sub-front : goal.overflow_sub-front
overflow_sub-front c = grind (arith, common_steps)

pub before-front-requires-clause-inside : goal.before-front-requires-clause-inside
before-front-requires-clause-inside c = grind (arith, common_steps)

pub loop-front-smaller : goal.loop-front-smaller
loop-front-smaller c = grind (arith, common_steps)
