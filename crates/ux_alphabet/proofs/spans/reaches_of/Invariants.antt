use Rattle.std.proofs.Common.{◌≡◌, length, take}
use Rattle.ux_alphabet.specs.Spans.{AreReaches}
use Rattle.ux_alphabet.proofs.spans.reaches_of.Given as goal

abbrev pub invariant-loop-span : goal.invariant-loop-span
invariant-loop-span l = record {
  size : length l.reaches.items ≡ l.size;
  reached : AreReaches (take l.span-index l.spans) l.reaches.items;
}
