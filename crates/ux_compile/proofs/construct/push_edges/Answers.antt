use Rattle.std.proofs.Common.{arith, ℕ, sym, ◌∙◌, append-nil}
use Rattle.ux_compile.specs.Construct.{edge_of}
use Rattle.ux_base.proofs.JoinedLists.{adds_item}
use Rattle.ux_compile.proofs.StatesLemmas.{chain_fits, line_some}
use Rattle.ux_compile.proofs.construct.push_edges.Goals as goal

pub loop-line-init : goal.loop-line-init
loop-line-init c = record {
  chain = c.first_chain-chain.ensures;
  items = c.in_ok-reserve.ensures.items ∙ sym (append-nil c.args.edges.now.items);
}

pub edge-requires-clause-fits : goal.edge-requires-clause-fits
edge-requires-clause-fits c =
    let fits = chain_fits c.args.places.now c.requires.fit c.args.place c.loop-line.line
    c.requires.place (omega arith) in
    let is = c.loop-line.invariant.chain.first in
    omega arith

pub edge-requires-clause-label : goal.edge-requires-clause-label
edge-requires-clause-label c =
    line_some c.args.places.now c.requires.fit c.args.place c.loop-line.line (omega arith)

pub loop-line-preserved : goal.loop-line-preserved
loop-line-preserved c = record {
  chain = c.next_chain-chain.ensures;
  items = adds_item (λ (line : ℕ). edge_of c.args.places.now c.args.place line 0)
      c.args.edges.now.items c.loop-line.edges.items c.push.new.self.items
      c.in_ok-edge.field-0 c.loop-line.line
      c.loop-line.invariant.items c.in_ok-push.ensures.items c.in_ok-edge.ensures;
}
