use Rattle.std.proofs.Common.{◌-◌, ◌↔◌, ℕ, List}
use Rattle.std.specs.Prelude.{Contains}
use Rattle.std.specs.List.{AllZip, flat_map}
use Rattle.ux_sentence.specs.declared.sentence.Sentence.{Sentence}
use Rattle.ux_sentence.proofs.PlaceLemmas.{IsReadTo}
use Rattle.ux_reading_table.specs.Noted.{AreNoted}
use Rattle.ux_reading_table.specs.Numbered.{IsNumberedBy, texts_in}
use Rattle.ux_reading_table.proofs.numbered_text.noted_of.Given as goal

-- the sentences so far are read and told, and their texts noted
abbrev pub invariant-loop-sentences : goal.invariant-loop-sentences
invariant-loop-sentences l = record {
  so_far : List Sentence;
  read : IsReadTo l.text l.file so_far;
  noted : AreNoted l.noted;
  same : (one : List ℕ) →
      Contains l.noted.printed.keys one ↔ Contains (flat_map texts_in so_far) one;
  told : AllZip (IsNumberedBy l.noted.printed.keys) so_far l.sentences.items;
}

abbrev pub decreases-loop-sentences : goal.decreases-loop-sentences
decreases-loop-sentences l = l.file.count - l.file.told
