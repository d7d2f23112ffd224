use Rattle.std.proofs.Common.{take}
use Rattle.ux_chart.specs.Search.{Adds}
use Rattle.ux_chart.proofs.seen.Seen.add_all.Given as goal

abbrev pub invariant-loop-config : goal.invariant-loop-config
invariant-loop-config l = Adds l.fn.self (take l.config-index l.found) l.self
