use Rattle.std.proofs.Common.{map, string_bytes}
use Rattle.ux_command_line.proofs.WrittenLemmas.{written_if_ok, unwritten}
use Rattle.ux_command_line.proofs.request.Request.of.Goals as goal

pub returns-clause-written : goal.returns-clause-written
returns-clause-written c =
    written_if_ok (map string_bytes c.args.words.now) c.asked.result c.asked.ensures.ok

pub returns-clause-unwritten : goal.returns-clause-unwritten
returns-clause-unwritten c =
    λ usage. unwritten (map string_bytes c.args.words.now) (c.asked.ensures.usage usage)
