use Rattle.std.proofs.Common.{take}
use Rattle.std.specs.List.{AllZip}
use Rattle.ux_fst2.specs.Inner.{IsReadTag}
use Rattle.ux_fst2.specs.Reading.{AreGoodBefore}
use Rattle.ux_fst2.proofs.reading.read_tags.Given as goal

-- the tags so far are good, and were read
abbrev pub invariant-loop-n : goal.invariant-loop-n
invariant-loop-n l = record {
  good : AreGoodBefore l.n l.texts;
  read : AllZip IsReadTag (take l.n l.texts) l.tags.items;
}
