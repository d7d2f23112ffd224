use Rattle.std.proofs.Common.{subst}
use Rattle.std.proofs.lemmas.Result.{on_ok_weaker}
use Rattle.ux_inflect.specs.Outcomes.{IsOnlyLine}
use Rattle.ux_inflect.specs.Places.{place_of}
use Rattle.ux_inflect.proofs.OutcomeLemmas.{more_alike, more_none}
use Rattle.ux_inflect.proofs.outcomes.put_line.Goals as goal

pub returns-in-Some : goal.returns-in-Some
returns-in-Some c =
    on_ok_weaker c.insert_line.result
    (more_alike c.args.lines.now.keys c.insert_line.new.lines.keys
    (subst (IsOnlyLine c.args.stem.now (place_of c.args.config.now)) c.in-Some.is
    c.in_ok-line.ensures)) c.insert_line.ensures

pub returns-in-None : goal.returns-in-None
returns-in-None c =
    more_none c.args.lines.now.keys
    (subst (IsOnlyLine c.args.stem.now (place_of c.args.config.now)) c.in-None.is
    c.in_ok-line.ensures)
