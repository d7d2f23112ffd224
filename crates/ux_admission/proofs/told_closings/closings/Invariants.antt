use Rattle.std.proofs.Common.{◌≡◌, ◌+◌, [], get_or}
use Rattle.std.specs.List.{range_with_len, flat_map}
use Rattle.ux_admission.specs.ToldClosings.{closings_at}
use Rattle.ux_admission.proofs.told_closings.closings.Given as goal

-- what is told of the places so far
abbrev pub invariant-loop-place : goal.invariant-loop-place
invariant-loop-place l =
    l.list.items
    ≡ flat_map (closings_at (λ p. get_or l.stands p 0) l.places (λ p. get_or l.closers (l.before + p) []))
    (range_with_len 0 l.place)
