use Rattle.std.proofs.Common.{◌≡◌, []}
use Rattle.ux_walker.specs.Walking.{IsUnderWay}
use Rattle.ux_walker.proofs.UnderWay.{left_of}
use Rattle.ux_walker.proofs.walking.walk_to_first.Given as goal

-- the walk came so far, and to no end
abbrev pub invariant-loop-visit : goal.invariant-loop-visit
invariant-loop-visit l = record {
  same : l.automaton.setting ≡ l.fn.automaton.setting;
  way : IsUnderWay l.automaton l.start l.agenda l.ends.items;
  none : l.ends.items ≡ [];
}

-- the tokens from the least position on
abbrev pub decreases-loop-visit : goal.decreases-loop-visit
decreases-loop-visit l = left_of l.text l.agenda
