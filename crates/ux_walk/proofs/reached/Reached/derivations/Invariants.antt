use Rattle.std.proofs.Common.{take}
use Rattle.std.specs.List.{AllZip}
use Rattle.ux_walk.proofs.Derived.{IsSpelled}
use Rattle.ux_walk.proofs.reached.Reached.derivations.Given as goal

-- what was found so far is spelled out
abbrev pub invariant-loop-found : goal.invariant-loop-found
invariant-loop-found l = AllZip (IsSpelled l.self) (take l.found-index l.found-items)
    l.derivations.items
