use Rattle.std.proofs.Common.{◌≡◌, take}
use Rattle.std.specs.Prelude.{Contains}
use Rattle.ux_closure.specs.declared.stand.Stand.{Stand}
use Rattle.ux_automaton.proofs.AddingLemmas.{AddsSome}
use Rattle.ux_automaton.proofs.fronts.put_all.Given as goal

-- the stands so far are in the set
abbrev pub invariant-loop-stand : goal.invariant-loop-stand
invariant-loop-stand l = AddsSome (λ (one : Stand) (stand : Stand). stand ≡ one)
    (Contains l.fn.set.keys) (Contains l.set.keys) (take l.stand-index l.stands)
