use Rattle.std.proofs.Common.{◌≡◌, ◌+◌, [], ◌∷◌, filter, map, take, length}
use Rattle.std.specs.Prelude.{nat_lt}
use Rattle.ux_inflect.specs.Cyclic.{calls_of}
use Rattle.ux_inflect.proofs.rows.rows_of_calls.Given as goal

-- the rows of the graphs so far are there
abbrev pub invariant-loop-before : goal.invariant-loop-before
invariant-loop-before l = l.rows.items ≡
    map (filter (λ end. nat_lt end (length l.net + 1))) ([] ∷ map calls_of (take l.before l.net))
