use Rattle.std.proofs.Common.{◌≡◌, ◌++◌, map}
use Rattle.std.specs.List.{range_with_len}
use Rattle.ux_compile.specs.Construct.{chain_state}
use Rattle.ux_compile.proofs.construct.push_chain.Given as goal

abbrev pub invariant-loop-k : goal.invariant-loop-k
invariant-loop-k l =
    l.states.items
    ≡ l.fn.states.items ++ map (chain_state l.places l.place l.line) (range_with_len 0 l.k)
