use Rattle.std.proofs.Common.{◌≡◌, List, length, take, string_bytes}
use Rattle.std.specs.List.{AllZip}
use Rattle.ux_sentence.specs.declared.sentence.Sentence.{Sentence}
use Rattle.ux_cmd_elag.specs.Ruling.{Stands}
use Rattle.ux_cmd_elag.proofs.RulingLemmas.{AreRuledTo}
use Rattle.ux_cmd_elag.proofs.ruling.print_ruled.Given as goal

-- what the rules leave of the sentences so far is written
abbrev pub invariant-loop-sentence : goal.invariant-loop-sentence
invariant-loop-sentence l = record {
  same : l.rules ≡ l.fn.rules;
  ruled : (old : List Sentence) → AllZip (Stands l.fn.rules.texts) l.sentences old →
      AreRuledTo l.fn.rules.rules (length l.sentences) (take l.sentence-index old)
      (string_bytes l.answer);
}
