use Rattle.ux_text_automaton.proofs.SentenceLemmas.{AreLinksBefore}
use Rattle.ux_text_automaton.proofs.building.links_of.Given as goal

-- the links that begin before the place
abbrev pub invariant-loop-place : goal.invariant-loop-place
invariant-loop-place l = AreLinksBefore l.text l.tables l.run l.place l.links.items
