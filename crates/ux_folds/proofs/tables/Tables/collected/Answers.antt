use Rattle.ux_folds.proofs.PuttingLemmas.{collects, collects_nothing}
use Rattle.ux_folds.proofs.tables.Tables.collected.Goals as goal

pub returns-in_ok-push_bytes-in-Some : goal.returns-in_ok-push_bytes-in-Some
returns-in_ok-push_bytes-in-Some c = collects c.args.self.now c.push_bytes.new.self c.args.known c.args.put.now
    c.in-Some.front c.in_ok-push_bytes-in-Some.field-0 c.in-Some.is c.in_ok-push_bytes-in-Some.ensures

pub returns-in-None : goal.returns-in-None
returns-in-None c = collects_nothing c.args.self.now c.args.known c.args.put.now c.in-None.is
