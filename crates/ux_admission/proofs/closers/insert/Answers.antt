use Rattle.ux_admission.proofs.FindsLemmas.{inserted}
use Rattle.ux_admission.proofs.closers.insert.Goals as goal

pub returns : goal.returns
returns g c = inserted _ c.requires c.args.set.now.keys c.insert.new.self.keys c.args.item
    c.in_ok-insert.field-0 c.in_ok-insert.ensures.added c.in_ok-insert.ensures.keys
