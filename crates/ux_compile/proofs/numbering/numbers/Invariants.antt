use Rattle.std.proofs.Common.{◌≡◌, map}
use Rattle.std.specs.List.{range_with_len}
use Rattle.ux_compile.specs.Construct.{number}
use Rattle.ux_compile.proofs.numbering.numbers.Given as goal

abbrev pub invariant-loop-place : goal.invariant-loop-place
invariant-loop-place l = record {
  count : l.number ≡ number l.places l.place;
  items : l.numbers.items ≡ map (number l.places) (range_with_len 0 l.place);
}
