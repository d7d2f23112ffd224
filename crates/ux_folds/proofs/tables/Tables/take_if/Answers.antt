use Rattle.std.proofs.Common.{arith}
use Rattle.ux_folds.proofs.FollowingLemmas.{takes}
use Rattle.ux_folds.proofs.tables.Tables.take_if.Goals as goal

pub returns : goal.returns
returns c = λ novar names. takes c.args.text.now c.args.mode novar names c.args.self.now
    c.take.new.self c.args.kept c.in_ok-take.field-0 c.args.from c.args.to (omega arith)
    (omega arith) (omega arith) (c.in_ok-take.ensures names)
