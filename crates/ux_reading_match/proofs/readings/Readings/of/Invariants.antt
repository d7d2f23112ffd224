use Rattle.std.proofs.Common.{◌≡◌, map, take}
use Rattle.std.specs.Prelude.{All}
use Rattle.ux_sentence.specs.Readings.{IsSpellable}
use Rattle.ux_sentence.specs.Written.{reading_text}
use Rattle.ux_reading_match.proofs.readings.Readings.of.Given as goal

-- the readings so far have the first texts
abbrev pub invariant-loop-number : goal.invariant-loop-number
invariant-loop-number l = record {
  texts_are : map reading_text l.readings.items ≡ take l.number l.table;
  spellable : All IsSpellable l.readings.items;
}
