use Rattle.std.proofs.Common.{◌-◌, ◌≤◌, List, length, string_bytes}
use Rattle.std.specs.List.{AllZip}
use Rattle.ux_net.specs.Nets.{net_grammar}
use Rattle.ux_reading_table.specs.Numbered.{IsNumberedBy}
use Rattle.ux_sentence.specs.Valid.{AreValid}
use Rattle.ux_sentence.specs.declared.sentence.Sentence.{Sentence}
use Rattle.ux_cmd_tfind.proofs.FindingLemmas.{AreFoundTo}
use Rattle.ux_cmd_tfind.proofs.finding.print_all.Given as goal

-- the spans of the sentences before the next ones are written
abbrev pub invariant-together : goal.invariant-together
invariant-together l = record {
  low : l.first ≤ length l.sentences;
  found : (old : List Sentence) → AreValid old →
      AllZip (IsNumberedBy l.finder.texts) old l.sentences →
      AreFoundTo l.finder.letters (net_grammar l.finder.net) old l.first (string_bytes l.answer);
}

abbrev pub decreases-together : goal.decreases-together
decreases-together l = length l.sentences - l.first
