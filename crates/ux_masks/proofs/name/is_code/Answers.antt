use Rattle.std.proofs.Common.{sym, ◌∙◌}
use Rattle.ux_masks.proofs.CodeBytesLemmas.{is_code_of, no_code_of}
use Rattle.ux_masks.proofs.name.is_code.Goals as goal

pub returns-then-is_capital_byte : goal.returns-then-is_capital_byte
returns-then-is_capital_byte c =
    is_code_of c.as_bytes.result.now c.as_bytes-then-is_capital_byte.result.now c.args.name.now
    c.are_code_bytes.result c.as_bytes.ensures.value
    c.as_bytes-then-is_capital_byte.ensures.value c.in-len1-up.len_at_least
    (sym c.is_capital_byte.ensures ∙ c.if-is_capital_byte.true) c.are_code_bytes.ensures.0
    c.are_code_bytes.ensures.1

pub returns-else-is_capital_byte : goal.returns-else-is_capital_byte
returns-else-is_capital_byte c =
    no_code_of c.as_bytes.result.now c.args.name.now c.is_capital_byte.result
    c.as_bytes.ensures.value c.in-len1-up.len_at_least c.is_capital_byte.ensures
    c.if-is_capital_byte.false
