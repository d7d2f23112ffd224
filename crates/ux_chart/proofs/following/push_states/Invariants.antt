use Rattle.std.proofs.Common.{◌≡◌, ◌++◌, take, map}
use Rattle.ux_chart.proofs.following.push_states.Given as goal

abbrev pub invariant-loop-state : goal.invariant-loop-state
invariant-loop-state l = l.found.items
    ≡ l.fn.found.items ++ map (λ a. record { state = a; at = l.at }) (take l.state-index l.states)
