use Rattle.std.proofs.Common.{arith, inr, refl}
use Rattle.ux_reading_table.proofs.FieldsLemmas.{leads_back, line_of_fields, link_with, no_line_of_fields}
use Rattle.ux_reading_table.proofs.noting.note_link.Goals as goal

-- the text says no reading
pub returns-in_default-2-clause-err : goal.returns-in_default-2-clause-err
returns-in_default-2-clause-err c =
    let none = rw c.in_default-2.is at c.in_ok-reading.ensures.says in
    inr (
      refl,
      no_line_of_fields c.args.states c.args.line.now c.in-Some.fields (omega arith)
          c.in-Some.ensures none,
    )

-- the link leads to no greater state
pub returns-then-fields-clause-err : goal.returns-then-fields-clause-err
returns-then-fields-clause-err c =
    let says = rw c.in-Some-2.is at c.in_ok-reading.ensures.says in
    inr (leads_back c.args.states c.args.line.now c.args.number c.in-Some.fields says.0
    c.in-Some.ensures says.1 c.if-fields.true)

pub returns-clause-ok : goal.returns-clause-ok
returns-clause-ok c =
    let says = rw c.in-Some-2.is at c.in_ok-reading.ensures.says in (
      link_with c.in-Some.fields says.0,
      (
        line_of_fields c.args.states c.args.line.now c.in-Some.fields says.0 c.in-Some.ensures
            says.1,
        c.if-fields.false,
      ),
      says.2,
      record { from = refl; to = refl; reading = says.3 },
    )
