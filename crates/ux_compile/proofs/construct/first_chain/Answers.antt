use Rattle.std.proofs.Common.{arith, ◌∙◌}
use Rattle.ux_compile.specs.Construct.{number, chain_start}
use Rattle.ux_compile.proofs.StatesLemmas.{table_within, table_at}
use Rattle.ux_compile.proofs.construct.first_chain.Goals as goal

pub bounds-numbers-place : goal.bounds-numbers-place
bounds-numbers-place c =
    table_within c.args.places.now (number c.args.places.now) c.args.numbers.now c.args.place
    c.requires.numbers c.requires.place

pub bounds-starts-place : goal.bounds-starts-place
bounds-starts-place c =
    table_within c.args.places.now (chain_start c.args.places.now) c.args.starts.now c.args.place
    c.requires.starts c.requires.place

pub returns : goal.returns
returns c = record {
  number = table_at c.args.places.now (number c.args.places.now) c.args.numbers.now
      c.args.place c.requires.numbers c.requires.place;
  first = table_at c.args.places.now (chain_start c.args.places.now) c.args.starts.now
      c.args.place c.requires.starts c.requires.place ∙ omega arith;
}
