use Rattle.std.proofs.Common.{take}
use Rattle.ux_monitor.specs.Owing.{AreLater}
use Rattle.ux_monitor.proofs.owing.owed_later.Given as goal

abbrev pub invariant-loop-one : goal.invariant-loop-one
invariant-loop-one l = AreLater l.steps l.ends l.passed.keys l.owed (take l.one-index l.owed) l.next.keys
