use Rattle.ux_alphabet.proofs.TableLemmas.{IsLetter-table}
use Rattle.ux_alphabet.proofs.tables.Tables.of.Goals as goal

-- each table is of the lines, which are lent three times, and one is of two tables
pub invariant_of-result : goal.invariant_of-result
invariant_of-result c =
    let upper = c.in_ok-upper.upper.items in
    let lower = c.in_ok-lower.lower.items in
    let uppers = rw c.deref.ensures.value at c.in_ok-upper.ensures in
    let lowers = rw c.deref-2.ensures.value at c.in_ok-lower.ensures in
    let of_upper = rw c.deref-3.ensures.value at c.in_ok-letter.ensures in
    let either = rw c.deref-4.ensures.value at of_upper in
    record {
      uppers = uppers;
      lowers = lowers;
      letters = IsLetter-table _ upper lower c.in_ok-letter.letter.items uppers lowers either;
      forms_are = rw c.deref-5.ensures.value at c.in_ok-upper_forms.ensures;
      pairs_are = rw c.deref-6.ensures.value at c.in_ok-pairs.ensures;
    }
