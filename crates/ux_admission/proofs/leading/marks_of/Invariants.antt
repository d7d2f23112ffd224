use Rattle.std.proofs.Common.{◌≡◌, ℕ, ◌<◌, get_or, length}
use Rattle.ux_admission.specs.Leading.{AreMarks, no_marks}
use Rattle.ux_boxes.specs.Places.{label_lines}
use Rattle.ux_admission.proofs.leading.marks_of.Given as goal

abbrev pub invariant-loop-place : goal.invariant-loop-place
invariant-loop-place l = record {
  len : length l.marks.items ≡ l.place-index;
  marks : (b : ℕ) → b < l.place-index →
      AreMarks (label_lines l.places b) (get_or l.marks.items b no_marks);
}
