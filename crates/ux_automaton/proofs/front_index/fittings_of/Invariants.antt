use Rattle.std.proofs.Common.{take}
use Rattle.std.specs.Prelude.{Contains}
use Rattle.ux_automaton.specs.FrontIndexes.{FitsOver}
use Rattle.ux_automaton.proofs.AddingLemmas.{AddsSome}
use Rattle.ux_automaton.proofs.front_index.fittings_of.Given as goal

-- the stands so far were added with their tokens
abbrev pub invariant-loop-stand : goal.invariant-loop-stand
invariant-loop-stand l = AddsSome (FitsOver l.masked) (λ fitting. ⊥) (Contains l.fittings.items)
    (take l.stand-index l.stands)
