use Rattle.std.proofs.Common.{arith, ap, ◌∙◌}
use Rattle.std.proofs.lemmas.Str.{utf8_valid_len_le}
use Rattle.std.specs.Str.{valid_up_to}
use Rattle.ux_decode.proofs.reading.read_utf8.Goals as goal

-- A list of bytes takes less than half of what can be addressed.
pub overflow_add-result : goal.overflow_add-result
overflow_add-result c =
    let bytes = c.args.bytes in
    let cause = c.valid_up_to.ensures ∙ ap valid_up_to c.utf8_error.ensures in
    let place = cause ∙ c.in-Err.ensures.valid_len in
    omega (arith, place, utf8_valid_len_le bytes.items, bytes.ok, bytes.small)
