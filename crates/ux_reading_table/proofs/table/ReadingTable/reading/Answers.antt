use Rattle.std.proofs.Common.{arith, List, ℕ, ◌∙◌, ap, length, sym, subst}
use Rattle.ux_sentence.specs.Readings.{IsReading}
use Rattle.ux_reading_table.specs.Numbered.{AreTexts}
use Rattle.ux_reading_table.proofs.TableLemmas.{reading_found, reading_there}
use Rattle.ux_reading_table.proofs.table.ReadingTable.reading.Goals as goal

-- each text of the table says a reading
pub unreachable-requires : goal.unreachable-requires
unreachable-requires c =
    let none = rw c.in-None.is at c.in_ok-reading.ensures in
    let same = c.as_slice-texts.ensures.keys ∙ c.self.view_is in
    reading_there c.as_slice-texts.result.now c.args.number c.index-texts-number.result
    (subst AreTexts (sym c.as_slice-texts.ensures.keys) c.self.invariant.0.are_texts)
    (omega (arith, c.requires, ap length same)) c.index-texts-number.is
    (λ reading says. none reading
    (subst (λ (t : List ℕ). IsReading t reading) (sym c.as_str.ensures) says))

pub returns-clause-spellable : goal.returns-clause-spellable
returns-clause-spellable c =
    let says = rw (c.in-Some-2.is, c.as_str.ensures) at c.in_ok-reading.ensures in
    let same = c.as_slice-texts.ensures.keys ∙ c.self.view_is in
    (reading_found c.as_slice-texts.result.now c.args.self.now c.args.number
    c.index-texts-number.result c.in-Some-2.reading same
    (subst AreTexts (sym c.as_slice-texts.ensures.keys) c.self.invariant.0.are_texts)
    (omega (arith, c.requires, ap length same)) c.index-texts-number.is says).0

pub returns-clause-text : goal.returns-clause-text
returns-clause-text c =
    let says = rw (c.in-Some-2.is, c.as_str.ensures) at c.in_ok-reading.ensures in
    let same = c.as_slice-texts.ensures.keys ∙ c.self.view_is in
    (reading_found c.as_slice-texts.result.now c.args.self.now c.args.number
    c.index-texts-number.result c.in-Some-2.reading same
    (subst AreTexts (sym c.as_slice-texts.ensures.keys) c.self.invariant.0.are_texts)
    (omega (arith, c.requires, ap length same)) c.index-texts-number.is says).1
