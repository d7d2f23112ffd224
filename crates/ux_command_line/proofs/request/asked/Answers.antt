use Rattle.std.proofs.Common.{arith}
use Rattle.std.proofs.lemmas.Grind.{common_steps}
use Rattle.ux_command_line.proofs.RequestLemmas.{request_of-more}
use Rattle.ux_command_line.proofs.request.asked.Goals as goal

-- by name, so that a wrong body is refused at once
pub returns-in-len1-up-clause-usage : goal.returns-in-len1-up-clause-usage
returns-in-len1-up-clause-usage c = rw (request_of-more c.word-item-2.result c.args.words.now
    c.as_str-in-len1-up.result.now c.in-len1-up.len_at_least c.word-item-2.is
    c.as_str-in-len1-up.ensures.value) c.command_request-in-len1-up.ensures.usage

pub returns-in-empty-clause-usage : goal.returns-in-empty-clause-usage
returns-in-empty-clause-usage c = grind (arith, common_steps)

pub returns-in-Some-clause-ok : goal.returns-in-Some-clause-ok
returns-in-Some-clause-ok c = grind (arith, common_steps)

pub returns-in-None-clause-usage : goal.returns-in-None-clause-usage
returns-in-None-clause-usage c = grind (arith, common_steps)

pub returns-in-len1-up-clause-ok : goal.returns-in-len1-up-clause-ok
returns-in-len1-up-clause-ok c = rw (request_of-more c.word-item-2.result c.args.words.now
    c.as_str-in-len1-up.result.now c.in-len1-up.len_at_least c.word-item-2.is
    c.as_str-in-len1-up.ensures.value) c.command_request-in-len1-up.ensures.ok
