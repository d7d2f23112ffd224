use Rattle.std.proofs.Common.{arith, sym, append-nil}
use Rattle.ux_compile.specs.Construct.{chain_state, along_line}
use Rattle.ux_base.proofs.JoinedLists.{adds_list}
use Rattle.ux_compile.proofs.StatesLemmas.{chain_fits}
use Rattle.ux_compile.proofs.construct.push_chains.Goals as goal

pub loop-line-init : goal.loop-line-init
loop-line-init c = record {
  chain = c.first_chain-chain.ensures;
  items = sym (append-nil c.args.states.now.items);
}

pub push_chain-requires-clause-fits : goal.push_chain-requires-clause-fits
push_chain-requires-clause-fits c =
    let fits = chain_fits c.args.places.now c.requires.fit c.args.place c.loop-line.line
    c.requires.place (omega arith) in
    let is = c.loop-line.invariant.chain.first in
    omega arith

pub loop-line-preserved : goal.loop-line-preserved
loop-line-preserved c = record {
  chain = c.next_chain-chain.ensures;
  items = adds_list (along_line c.args.places.now (chain_state c.args.places.now) c.args.place)
      c.args.states.now.items c.loop-line.states.items c.push_chain.new.states.items
      c.loop-line.line
      c.loop-line.invariant.items c.in_ok-push_chain.ensures;
}
