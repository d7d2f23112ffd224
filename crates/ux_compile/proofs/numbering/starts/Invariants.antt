use Rattle.std.proofs.Common.{◌≡◌, map}
use Rattle.std.specs.List.{range_with_len}
use Rattle.ux_compile.specs.Construct.{chain_start}
use Rattle.ux_compile.proofs.numbering.starts.Given as goal

abbrev pub invariant-loop-place : goal.invariant-loop-place
invariant-loop-place l = record {
  next : l.start ≡ chain_start l.places l.place;
  items : l.starts.items ≡ map (chain_start l.places) (range_with_len 0 l.place);
}
