use Rattle.std.proofs.Common.{◌≡◌, ◌≤◌, ◌+◌, ◌-◌, length, drop}
use Rattle.ux_compile.specs.Ranks.{silent_len}
use Rattle.ux_compile.proofs.ranks.silent_len.Given as goal

abbrev pub invariant-loop-k : goal.invariant-loop-k
invariant-loop-k l = record {
  from : l.from ≤ l.k;
  within : l.k ≤ length l.labels;
  front : silent_len (drop l.from l.labels) ≡ (l.k - l.from) + silent_len (drop l.k l.labels);
}
