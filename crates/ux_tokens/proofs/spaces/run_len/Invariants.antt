use Rattle.std.proofs.Common.{◌≡◌, ◌+◌, drop}
use Rattle.std.specs.List.{prefix_len}
use Rattle.ux_alphabet.specs.Letters.{is_separator}
use Rattle.ux_tokens.proofs.spaces.run_len.Given as goal

-- every byte so far is white space
abbrev pub invariant-loop-place : goal.invariant-loop-place
invariant-loop-place l =
    prefix_len is_separator l.text ≡ l.place + prefix_len is_separator (drop l.place l.text)
