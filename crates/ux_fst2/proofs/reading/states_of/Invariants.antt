use Rattle.std.proofs.Common.{take}
use Rattle.std.specs.List.{AllZip}
use Rattle.ux_fst2.specs.Files.{IsStateBy}
use Rattle.ux_fst2.specs.Inner.{IsBorneBy}
use Rattle.ux_fst2.proofs.reading.states_of.Given as goal

-- the states so far
abbrev pub invariant-loop-state : goal.invariant-loop-state
invariant-loop-state l =
    AllZip (IsStateBy (IsBorneBy l.tags)) (take l.state-index l.states) l.told.items
