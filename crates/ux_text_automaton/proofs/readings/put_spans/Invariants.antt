use Rattle.std.proofs.Common.{◌≡◌, ◌++◌, take}
use Rattle.ux_text_automaton.specs.Candidates.{span_links}
use Rattle.ux_text_automaton.proofs.readings.put_spans.Given as goal

-- the links of the row's entries so far stand last
abbrev pub invariant-loop-last : goal.invariant-loop-last
invariant-loop-last l =
    l.found.items ≡ l.initial.found.items
    ++ span_links l.text l.run.first l.from (take l.last-index l.row)
