-- Fewer than two entries differ.
use Rattle.std.proofs.Common.{arith, ◌<◌, List, length}
use Rattle.ux_dela.specs.declared.entry.Entry.{Entry}
use Rattle.ux_dict.specs.Content.{AreDifferent}

pub once-short : (xs : List Entry) → length xs < 2 → AreDifferent xs xs
once-short xs short = record {
  members = λ entry. (λ has. has, λ has. has);
  once = λ i j d before within. absurd (omega (arith, short, before, within));
  ordered = λ i j d before within. absurd (omega (arith, short, before, within));
}
