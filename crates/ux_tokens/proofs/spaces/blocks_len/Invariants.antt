use Rattle.std.proofs.Common.{◌≡◌, ◌-◌, ◌≤◌, ◌++◌, length, take, drop}
use Rattle.ux_tokens.specs.Tokens.{with_single_spaces}
use Rattle.ux_tokens.proofs.spaces.blocks_len.Given as goal

-- every byte so far stays
abbrev pub invariant-loop-len : goal.invariant-loop-len
invariant-loop-len l = record {
  within : l.len ≤ length l.text;
  stays : with_single_spaces l.text ≡ take l.len l.text ++ with_single_spaces (drop l.len l.text);
}

abbrev pub decreases-loop-len : goal.decreases-loop-len
decreases-loop-len l = length l.text - l.len
