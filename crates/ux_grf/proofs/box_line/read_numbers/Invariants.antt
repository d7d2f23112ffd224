use Rattle.std.proofs.Common.{◌≡◌, true, take, map}
use Rattle.std.specs.List.{list_all}
use Rattle.ux_grf.specs.Numbers.{is_number, value_of}
use Rattle.ux_grf.proofs.box_line.read_numbers.Given as goal

-- so far all are numbers, with these values
abbrev pub invariant-loop-word : goal.invariant-loop-word
invariant-loop-word l =
    (list_all is_number (take l.word-index (map (λ w. w.now) l.words)) ≡ true)
    × (l.values.items ≡ map value_of (take l.word-index (map (λ w. w.now) l.words)))
