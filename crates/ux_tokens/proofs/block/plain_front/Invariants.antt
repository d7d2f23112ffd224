use Rattle.std.proofs.Common.{◌+◌, ◌≤◌}
use Rattle.ux_tokens.specs.Blocks.{BeginsPlain}
use Rattle.ux_tokens.proofs.block.plain_front.Given as goal

-- every byte so far is plain, and they are no more than a block and the byte after it
abbrev pub invariant-loop-place : goal.invariant-loop-place
invariant-loop-place l = record {
  few : l.place ≤ 256 + 1;
  plain : BeginsPlain l.text l.place;
}
