use Rattle.std.proofs.Common.{rules}
use Rattle.ux_cmd_bench.proofs.MadeLaws.{content_accepted}
use Rattle.ux_cmd_bench.proofs.phrases.lexicon.Goals as goal

pub unreachable-requires : goal.unreachable-requires
unreachable-requires c = content_accepted c.in-Err.field-0 (search rules)
