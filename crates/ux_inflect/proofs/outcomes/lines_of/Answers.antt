use Rattle.std.proofs.Common.{arith, ◌↔◌, List, subst}
use Rattle.std.specs.Prelude.{Contains}
use Rattle.ux_base.proofs.Lists.{take_whole}
use Rattle.ux_inflect.specs.declared.config.Config.{Config}
use Rattle.ux_inflect.specs.declared.outcomes.Line.{Line}
use Rattle.ux_inflect.specs.Outcomes.{IsLineOfSome}
use Rattle.ux_inflect.proofs.OutcomeLemmas.{lines_more}
use Rattle.ux_inflect.proofs.outcomes.lines_of.Goals as goal

pub loop-config-preserved : goal.loop-config-preserved
loop-config-preserved c =
    lines_more c.args.stem.now c.args.configs.now c.loop-config.config-index c.config-item.result
    c.loop-config-test.true c.config-item.is c.loop-config.lines.keys c.put_line.new.lines.keys
    c.loop-config.invariant c.in_ok-put_line.ensures

pub returns : goal.returns
returns c =
    subst (λ (l : List Config). (line : Line) → Contains c.loop-config.lines.keys line
    ↔ IsLineOfSome c.args.stem.now l line)
    (take_whole c.args.configs.now c.loop-config.config-index (omega (arith, c.loop-config-test.false)))
    c.loop-config.invariant
