use Rattle.std.proofs.Common.{◌≡◌, ◌++◌, take, map}
use Rattle.ux_chart.proofs.following.push_positions.Given as goal

abbrev pub invariant-loop-at : goal.invariant-loop-at
invariant-loop-at l = l.found.items
    ≡ l.fn.found.items ++ map (λ k. record { state = l.state; at = k }) (take l.at-index l.positions)
