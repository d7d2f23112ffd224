use Rattle.std.proofs.Common.{◌≡◌, ◌⊎◌, IsTrue, false, length, get_or}
use Rattle.ux_alphabet.proofs.SpanLemmas.{AreMarks}
use Rattle.ux_alphabet.proofs.tables.either_table.Given as goal

-- the marks so far
abbrev pub invariant-loop-place : goal.invariant-loop-place
invariant-loop-place l = record {
  size : length l.table.items ≡ l.place;
  marks : AreMarks l.table.items
      (λ c. IsTrue (get_or l.upper c false) ⊎ IsTrue (get_or l.lower c false)) l.place;
}
