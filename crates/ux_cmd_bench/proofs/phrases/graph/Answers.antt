use Rattle.std.proofs.Common.{rules}
use Rattle.ux_grf.specs.declared.graph.GraphKind.TheVariants.{Plain}
use Rattle.ux_grammars.proofs.GraphRefusals.{drawn_not_refused}
use Rattle.ux_cmd_bench.proofs.phrases.graph.Goals as goal

pub unreachable-requires : goal.unreachable-requires
unreachable-requires c =
    drawn_not_refused Plain c.args.text.now c.requires.draws.0 c.in-Err.field-0 c.requires.draws.1
    (search rules) c.in-Err.ensures.err
