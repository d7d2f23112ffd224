use Rattle.std.proofs.Common.{rules}
use Rattle.ux_cmd_bench.proofs.MadeLaws.{letters_accepted}
use Rattle.ux_cmd_bench.proofs.phrases.letters.Goals as goal

pub unreachable-requires : goal.unreachable-requires
unreachable-requires c = letters_accepted c.in-Err.field-0 (search rules)
