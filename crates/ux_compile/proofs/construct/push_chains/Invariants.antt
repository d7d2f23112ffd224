use Rattle.std.proofs.Common.{◌++◌, ◌≡◌}
use Rattle.std.specs.List.{range_with_len, flat_map}
use Rattle.ux_compile.specs.Chains.{IsChain}
use Rattle.ux_compile.specs.Construct.{chain_state, along_line}
use Rattle.ux_compile.proofs.construct.push_chains.Given as goal

abbrev pub invariant-loop-line : goal.invariant-loop-line
invariant-loop-line l = record {
  chain : IsChain l.places l.place l.line l.chain;
  items : l.states.items ≡ l.fn.states.items
      ++ flat_map (along_line l.places (chain_state l.places) l.place) (range_with_len 0 l.line);
}
