use Rattle.std.proofs.Common.{◌≡◌, map, take}
use Rattle.ux_text_automaton.specs.Candidates.{word_link}
use Rattle.ux_text_automaton.proofs.readings.entries.Given as goal

-- the links of the entries so far
abbrev pub invariant-loop-entry : goal.invariant-loop-entry
invariant-loop-entry l =
    l.found.items ≡ map (word_link l.from l.to) (take l.entry-index l.simple)
