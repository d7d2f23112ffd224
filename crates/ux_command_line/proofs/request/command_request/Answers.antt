use Rattle.std.proofs.Common.{◌∙◌, ap, map, string_bytes, sym, Err}
use Rattle.ux_command_line.specs.Matching.{values_with}
use Rattle.ux_command_line.proofs.MatchesLemmas.{err_of}
use Rattle.ux_command_line.proofs.RequestLemmas.{request-unread, request-read}
use Rattle.ux_command_line.proofs.request.command_request.Goals as goal

pub returns-in_err-options-clause-usage : goal.returns-in_err-options-clause-usage
returns-in_err-options-clause-usage c = λ usage.
    request-unread c.args.name.now (map string_bytes c.args.words.now) c.in_ok-command.command
    (sym c.named.ensures ∙ c.in_ok-command.ensures.ok_part)
    (c.in_err-options.ensures.usage (ap (λ e. Err e)
    (sym (err_of _ _ _ usage c.from_residual-in_err-options.ensures.1))))

pub returns-clause-usage : goal.returns-clause-usage
returns-clause-usage c = λ usage.
    request-read c.args.name.now (map string_bytes c.args.words.now) c.in_ok-command.command
    (sym c.named.ensures ∙ c.in_ok-command.ensures.ok_part) (values_with c.in_ok-options.options)
    c.in_ok-options.names c.in_ok-options.ensures.ok ∙ c.build.ensures.usage usage
