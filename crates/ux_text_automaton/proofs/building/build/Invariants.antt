use Rattle.ux_text_automaton.proofs.BuildLemmas.{AreBuilt}
use Rattle.ux_text_automaton.proofs.building.build.Given as goal

-- the sentences of the runs so far
abbrev pub invariant-loop-place : goal.invariant-loop-place
invariant-loop-place l = AreBuilt l.text l.tables l.runs.items l.place l.sentences.items
