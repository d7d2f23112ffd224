use Rattle.std.proofs.Common.{◌≡◌, take}
use Rattle.ux_cmd_bench.specs.Summaries.{longest_of}
use Rattle.ux_cmd_bench.proofs.summary.longest_hit.Given as goal

-- the longest of the hits so far
abbrev pub invariant-loop-hit : goal.invariant-loop-hit
invariant-loop-hit l = l.longest ≡ longest_of (take l.hit-index l.hits)
