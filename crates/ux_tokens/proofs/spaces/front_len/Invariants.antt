use Rattle.std.proofs.Common.{◌≡◌, ◌++◌, take, drop}
use Rattle.ux_tokens.specs.Tokens.{with_single_spaces}
use Rattle.ux_tokens.proofs.spaces.front_len.Given as goal

-- every byte so far stays
abbrev pub invariant-loop-place : goal.invariant-loop-place
invariant-loop-place l =
    with_single_spaces l.text ≡ take l.place l.text ++ with_single_spaces (drop l.place l.text)
