use Rattle.std.proofs.Common.{◌-◌, List}
use Rattle.ux_sentence.specs.declared.sentence.Sentence.{Sentence}
use Rattle.ux_sentence.proofs.PlaceLemmas.{IsReadTo}
use Rattle.ux_sentence.proofs.reader.check.Given as goal

-- some sentences were read
abbrev pub invariant-loop-sentence : goal.invariant-loop-sentence
invariant-loop-sentence l = record { so_far : List Sentence; read : IsReadTo l.text l.file so_far }

abbrev pub decreases-loop-sentence : goal.decreases-loop-sentence
decreases-loop-sentence l = l.file.count - l.file.told
