use Rattle.std.proofs.Common.{◌∙◌, ap}
use Rattle.clap.specs.Words.{found_of, rows_of}
use Rattle.clap.proofs.WalkLemmas.{first_value-rows}
use Rattle.ux_command_line.specs.Matching.{first_in, matched}
use Rattle.ux_command_line.proofs.ValueLemmas.{first_of-found}
use Rattle.ux_command_line.proofs.options.value_in.Goals as goal

pub returns : goal.returns
returns c = c.get_str.ensures ∙ (first_value-rows (found_of c.args.matches.now) c.name.result.now
    ∙ (first_of-found c.name.result.now (rows_of (found_of c.args.matches.now))
    ∙ ap (λ name. first_in name (matched c.args.matches.now)) c.name.ensures))
