use Rattle.std.proofs.Common.{◌≡◌, ◌++◌, map}
use Rattle.std.specs.List.{range_with_len}
use Rattle.ux_compile.specs.Chains.{IsChain}
use Rattle.ux_compile.specs.Construct.{edge_of}
use Rattle.ux_compile.proofs.construct.push_edges.Given as goal

abbrev pub invariant-loop-line : goal.invariant-loop-line
invariant-loop-line l = record {
  chain : IsChain l.places l.place l.line l.chain;
  items : l.edges.items
      ≡ l.fn.edges.items ++ map (λ line. edge_of l.places l.place line 0) (range_with_len 0 l.line);
}
