use Rattle.std.proofs.Common.{◌≡◌, ◌++◌, map}
use Rattle.ux_text_automaton.specs.Candidates.{link_in}
use Rattle.ux_text_automaton.proofs.keyed.put_links.Given as goal

-- the links so far stand last
abbrev pub invariant-loop-keyed : goal.invariant-loop-keyed
invariant-loop-keyed l = l.links.items ≡ l.initial.links.items ++ map link_in l.yielded
