use Rattle.ux_reading_table.proofs.BareLemmas.{bare_codes, bare_spelling}
use Rattle.ux_reading_table.proofs.codes.codes_printed.Goals as goal

pub returns-clause-so : goal.returns-clause-so
returns-clause-so c =
    let (codes, are) = rw c.in-Some-2.is at c.in_ok-place.ensures.codes in
    bare_spelling c.args.text.now c.in-Some.parts codes c.in-Some.ensures are

pub returns-clause-codes : goal.returns-clause-codes
returns-clause-codes c =
    let placed = rw c.in-Some-2.is at c.in_ok-place.ensures.placed in
    λ codes at.
    bare_codes c.args.text.now c.in-Some.parts codes c.in-Some.ensures (placed codes at)
