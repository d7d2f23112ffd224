use Rattle.std.proofs.Common.{◌≡◌, map, take, string_bytes}
use Rattle.ux_grf.proofs.calls.copies.Given as goal

-- the names so far are copied
abbrev pub invariant-loop-name : goal.invariant-loop-name
invariant-loop-name l =
    map string_bytes l.copies.items ≡ map (λ n. n.now) (take l.name-index l.names)
