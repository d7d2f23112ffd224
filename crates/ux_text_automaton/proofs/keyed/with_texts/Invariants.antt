use Rattle.std.proofs.Common.{◌≡◌, map}
use Rattle.ux_text_automaton.specs.Candidates.{keyed_of}
use Rattle.ux_text_automaton.proofs.keyed.with_texts.Given as goal

-- the links so far
abbrev pub invariant-loop-link : goal.invariant-loop-link
invariant-loop-link l = l.all.items ≡ map keyed_of l.yielded
