use Rattle.std.proofs.Common.{refl}
use Rattle.ux_elag.specs.Ready.{IsPassedBy}
use Rattle.ux_elag.proofs.StepsLemmas.{noted}
use Rattle.ux_elag.proofs.passing.note_passed.Goals as goal

pub returns-then-is_passed : goal.returns-then-is_passed
returns-then-is_passed c =
    noted c.args.tests.now.items c.push.new.self.items c.args.number
    (IsPassedBy c.args.reading.now c.args.sign.now) c.in_ok-push.ensures.items
    (c.if-is_passed.ensures.0 refl)
