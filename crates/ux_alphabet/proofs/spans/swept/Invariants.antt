use Rattle.std.proofs.Common.{◌≡◌, ◌↔◌, ℕ, ◌<◌, length}
use Rattle.ux_alphabet.specs.Spans.{ReachesPast, IsMarked}
use Rattle.ux_alphabet.proofs.SpanLemmas.{AreMarks}
use Rattle.ux_alphabet.proofs.spans.swept.Given as goal

-- the table so far, and the furthest end of the places so far
abbrev pub invariant-loop-place : goal.invariant-loop-place
invariant-loop-place l = record {
  size : length l.table.items ≡ l.place;
  furthest : (y : ℕ) → (y < l.end) ↔ ReachesPast l.reaches l.place y;
  marks : AreMarks l.table.items (IsMarked l.reaches) l.place;
}
