use Rattle.std.proofs.Common.{◌≡◌, map, take}
use Rattle.ux_paradigm.specs.Kept.{tail_of}
use Rattle.ux_paradigm.proofs.tail.tails_in.Given as goal

-- the ends of the lines of the entries so far are there
abbrev pub invariant-loop-entry : goal.invariant-loop-entry
invariant-loop-entry l = l.tails.items ≡ map (tail_of l.ending) (take l.entry-index l.entries)
