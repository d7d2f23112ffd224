use Rattle.std.proofs.Common.{take}
use Rattle.std.specs.List.{All}
use Rattle.ux_monitor.specs.declared.owing.Obligation.{Obligation}
use Rattle.ux_monitor.specs.Owing.{IsWell}
use Rattle.ux_monitor.proofs.owing.are_well.Given as goal

abbrev pub invariant-loop-one : goal.invariant-loop-one
invariant-loop-one l = All (λ (o : Obligation). IsWell l.steps l.ends o) (take l.one-index l.owed)
