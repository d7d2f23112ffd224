use Rattle.std.proofs.Common.{arith}
use Rattle.ux_compile.proofs.StatesLemmas.{chain_fits, chain_next}
use Rattle.ux_compile.proofs.construct.next_chain.Goals as goal

pub overflow_cast-first : goal.overflow_cast-first
overflow_cast-first c =
    let fits = chain_fits c.args.places.now c.requires.fit c.args.place c.args.line
    c.requires.place c.requires.line in
    omega arith

pub overflow_add-first : goal.overflow_add-first
overflow_add-first c =
    let fits = chain_fits c.args.places.now c.requires.fit c.args.place c.args.line
    c.requires.place c.requires.line in
    let is = c.requires.chain.first in
    omega arith

pub returns : goal.returns
returns c = record {
  number = c.requires.chain.number;
  first =
      let next = chain_next c.args.places.now c.args.place c.args.line in
      let is = c.requires.chain.first in
      omega arith;
}
