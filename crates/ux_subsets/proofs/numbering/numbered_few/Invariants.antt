use Rattle.std.proofs.Common.{List, [], vec_len}
use Rattle.ux_subsets.specs.declared.automaton.Link.{Link}
use Rattle.ux_subsets.specs.declared.sets.Set.{Set}
use Rattle.ux_subsets.specs.Building.{ArePlaced}
use Rattle.ux_subsets.proofs.numbering.numbered_few.Given as goal

-- where what is still due is placed, all of it is
abbrev pub invariant-loop-one : goal.invariant-loop-one
invariant-loop-one l = (new : List Set) (links : List Link) → ArePlaced l.fn.base l.sets.items new l.links.items links l.due.items →
    ArePlaced l.fn.base [] new l.fn.links.items links l.fn.due.items

abbrev pub decreases-loop-one : goal.decreases-loop-one
decreases-loop-one l = vec_len l.due
