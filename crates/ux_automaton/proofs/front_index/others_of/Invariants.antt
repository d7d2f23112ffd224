use Rattle.std.proofs.Common.{◌≡◌, take}
use Rattle.std.specs.Prelude.{Contains}
use Rattle.ux_closure.specs.declared.stand.Stand.{Stand}
use Rattle.ux_automaton.specs.FrontIndexes.{HasOther}
use Rattle.ux_automaton.proofs.AddingLemmas.{AddsSome}
use Rattle.ux_automaton.proofs.front_index.others_of.Given as goal

-- those of the stands so far that have such an edge were added
abbrev pub invariant-loop-stand : goal.invariant-loop-stand
invariant-loop-stand l = AddsSome
    (λ (stand : Stand) (other : Stand). (other ≡ stand) × HasOther l.net stand)
    (λ other. ⊥) (Contains l.others.items) (take l.stand-index l.stands)
