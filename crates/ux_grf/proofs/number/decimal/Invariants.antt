use Rattle.std.proofs.Common.{◌≡◌, min, true, take}
use Rattle.std.specs.List.{list_all}
use Rattle.ux_grf.specs.Numbers.{is_digit, value_of}
use Rattle.ux_grf.proofs.number.decimal.Given as goal

-- so far all are digits, and the value is theirs
abbrev pub invariant-loop-byte : goal.invariant-loop-byte
invariant-loop-byte l =
    (list_all is_digit (take l.byte-index l.word) ≡ true)
    × (l.value ≡ min (value_of (take l.byte-index l.word)) 1000000000)
