use Rattle.ux_boxes.specs.Refusing.{drawn}
use Rattle.ux_boxes.proofs.MissingLemmas.{stand_once}
use Rattle.ux_grammars.proofs.CompilingLemmas.{none_missing}
use Rattle.ux_grammars.proofs.compiling.compile.Goals as goal

pub refused_net-requires : goal.refused_net-requires
refused_net-requires c =
    none_missing c.args.alphabet.now (drawn c.args.graphs.items) c.in-Err.error c.requires.whole
    c.in-Err.ensures.err

pub returns-in-Ok-clause-compiles : goal.returns-in-Ok-clause-compiles
returns-in-Ok-clause-compiles c = record {
  same = c.in-Ok.ensures.words;
  states = record {
    apart = stand_once c.args.graphs.items c.requires.distinct;
    constructed = c.in-Ok.ensures.built;
  };
}
