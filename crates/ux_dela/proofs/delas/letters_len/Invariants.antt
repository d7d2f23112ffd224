use Rattle.std.proofs.Common.{◌≡◌, ◌+◌, drop}
use Rattle.std.specs.List.{prefix_len}
use Rattle.ux_dela.specs.Signs.{is_upper}
use Rattle.ux_dela.proofs.delas.letters_len.Given as goal

-- every byte so far is a letter
abbrev pub invariant-loop-place : goal.invariant-loop-place
invariant-loop-place l =
    prefix_len is_upper l.text ≡ l.place + prefix_len is_upper (drop l.place l.text)
