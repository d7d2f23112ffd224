use Rattle.std.proofs.Common.{◌≡◌, true}
use Rattle.ux_tokens.specs.Blocks.{BeginsPlain}
use Rattle.ux_tokens.proofs.block.are_plain.Given as goal

-- every byte so far is plain
abbrev pub invariant-loop-place : goal.invariant-loop-place
invariant-loop-place l = l.all ≡ true → BeginsPlain l.text l.place
