use Rattle.std.proofs.Common.{◌≡◌, take}
use Rattle.ux_cmd_bench.proofs.LongestLemmas.{longest_at}
use Rattle.ux_cmd_bench.proofs.summary.longest_span.Given as goal

-- the longest of the spans so far
abbrev pub invariant-loop-span : goal.invariant-loop-span
invariant-loop-span l = l.longest ≡ longest_at l.text (take l.span-index l.spans)
