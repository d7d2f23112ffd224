use Rattle.std.proofs.Common.{◌≡◌, ◌++◌, ◌<◌, ◌^◌, All, length, take}
use Rattle.std.specs.List.{flat_map}
use Rattle.ux_image.specs.Layout.{number_bytes, pair_bytes, PairFits}
use Rattle.ux_image.proofs.fields.put_pairs.Given as goal

-- their number, and those so far
abbrev pub invariant-loop-pair : goal.invariant-loop-pair
invariant-loop-pair l = record {
  bytes : l.bytes.items ≡ l.fn.bytes.items
      ++ (number_bytes (length l.pairs) ++ flat_map pair_bytes (take l.pair-index l.pairs));
  few : length l.pairs < 2 ^ 32;
  fits : All PairFits (take l.pair-index l.pairs);
}
