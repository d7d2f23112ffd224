use Rattle.std.proofs.Common.{◌-◌}
use Rattle.std.specs.Prelude.{All}
use Rattle.ux_sentence.specs.Paths.{IsWellFormed}
use Rattle.ux_sentence.proofs.PlaceLemmas.{IsReadTo}
use Rattle.ux_sentence.proofs.reader.read.Given as goal

-- the sentences so far were read, and are well formed
abbrev pub invariant-loop-sentences : goal.invariant-loop-sentences
invariant-loop-sentences l = record {
  read : IsReadTo l.text l.file l.sentences.items;
  well_formed : All IsWellFormed l.sentences.items;
}

abbrev pub decreases-loop-sentences : goal.decreases-loop-sentences
decreases-loop-sentences l = l.file.count - l.file.told
