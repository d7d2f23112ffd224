use Rattle.std.proofs.Common.{◌≡◌, take, fold}
use Rattle.clap.specs.Words.{app_of}
use Rattle.clap.specs.Simple.{with_rule}
use Rattle.ux_command_line.specs.Matching.{BARE, option_rule}
use Rattle.ux_command_line.proofs.arguments.app_with.Given as goal

-- the command has the options so far
abbrev pub invariant-loop-option : goal.invariant-loop-option
invariant-loop-option l = app_of l.app
    ≡ fold (λ app option. with_rule app (option_rule option)) BARE (take l.option-index l.options)
