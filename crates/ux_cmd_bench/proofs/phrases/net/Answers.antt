use Rattle.std.proofs.Common.{rules}
use Rattle.ux_boxes.specs.Refusing.{drawn}
use Rattle.ux_cmd_bench.proofs.MadeLaws.{grammar_accepted}
use Rattle.ux_cmd_bench.proofs.phrases.net.Goals as goal

pub compile-requires-clause-well_formed : goal.compile-requires-clause-well_formed
compile-requires-clause-well_formed c = λ k d within. (c.in_ok-graphs.ensures.given k d within).well_formed

pub unreachable-requires : goal.unreachable-requires
unreachable-requires c =
    grammar_accepted c.args.alphabet.now (drawn c.in_ok-graphs.graphs.items) c.in-Err.field-0
    c.in_ok-graphs.ensures.are (search rules) c.in-Err.ensures.err
