use Rattle.std.proofs.Common.{◌≡◌, ◌∙◌, refl, ap, map, string_bytes}
use Rattle.clap.specs.Words.{app_of}
use Rattle.ux_command_line.specs.Matching.{app_with}
use Rattle.ux_command_line.specs.Tables.{options_of}
use Rattle.ux_command_line.proofs.CommandReading.{AreUtf8-strings}
use Rattle.ux_command_line.proofs.MatchesLemmas.{err_of, simple_and_free, taken_read, refused_read}
use Rattle.ux_command_line.proofs.arguments.matches_in.Goals as goal

pub returns-in-Ok-clause-ok : goal.returns-in-Ok-clause-ok
returns-in-Ok-clause-ok c =
    let is : app_of c.in_ok-app.app ≡ app_with (options_of c.args.command) =
    c.in_ok-app.ensures ∙ ap app_with c.options.ensures in
    taken_read c.args.command (map string_bytes c.args.words.now)
    (AreUtf8-strings c.args.words.now) (app_of c.in_ok-app.app) is c.in-Ok.matches
    (c.in-Ok.ensures.kinds (simple_and_free (options_of c.args.command) _ is))
    c.in-Ok.ensures.matches

pub returns-in-Err-clause-usage : goal.returns-in-Err-clause-usage
returns-in-Err-clause-usage c = λ usage.
    let is : app_of c.in_ok-app.app ≡ app_with (options_of c.args.command) =
    c.in_ok-app.ensures ∙ ap app_with c.options.ensures in
    refused_read c.args.command (map string_bytes c.args.words.now)
    (AreUtf8-strings c.args.words.now) (app_of c.in_ok-app.app) is c.in-Err.error
    (c.in-Err.ensures.kinds (simple_and_free (options_of c.args.command) _ is))
    (c.cause.ensures (err_of _ _ (λ e. c.cause.result ≡ e) usage refl))
