use Rattle.std.proofs.Common.{◌∙◌, ap₂, sym, arith}
use Rattle.std.proofs.lemmas.Grind.{common_steps}
use Rattle.std.proofs.lemmas.List.Sums.{fold_more}
use Rattle.clap.specs.Simple.{with_rule}
use Rattle.ux_command_line.specs.Matching.{BARE, option_rule}
use Rattle.ux_command_line.proofs.arguments.app_with.Goals as goal

pub loop-option-preserved : goal.loop-option-preserved
loop-option-preserved c =
    c.in_ok-app.ensures.shape c.option_arg.ensures.own
    ∙ (ap₂ with_rule c.loop-option.invariant c.option_arg.ensures.rule ∙ sym (fold_more
    (λ app option. with_rule app (option_rule option)) BARE c.args.options.now
    c.loop-option.option-index _ c.loop-option-test.true))

pub returns : goal.returns
returns c = grind (arith, common_steps)
