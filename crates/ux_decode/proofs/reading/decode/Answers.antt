use Rattle.std.proofs.Common.{arith, ap, [], length, drop, string_bytes, length-drop}
use Rattle.std.proofs.lemmas.Result.{IfOk-weaker}
use Rattle.ux_decode.proofs.SpellsLemmas.{Spells-bound}
use Rattle.ux_decode.proofs.reading.decode.Goals as goal

pub returns-in-Utf16-clause-size : goal.returns-in-Utf16-clause-size
returns-in-Utf16-clause-size c =
    let file = c.deref-in-Utf16.result.now in
    let body = length-drop 2 file in
    let same = ap length c.deref-in-Utf16.ensures.value in
    IfOk-weaker c.read_utf16.result _ _ (λ text spells.
    let bound = Spells-bound c.in-Utf16.order (drop 2 file) (string_bytes text) [] spells in
    omega (arith, body, same, bound)) c.read_utf16.ensures.ok
