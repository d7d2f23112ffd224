use Rattle.std.proofs.Common.{◌≡◌, map, Some}
use Rattle.std.specs.Prelude.{option_map}
use Rattle.ux_inflect.specs.Places.{cursor_of, stroke_by}
use Rattle.ux_inflect.specs.Strokes.{all_stroked}
use Rattle.ux_inflect.proofs.form.take_text.Given as goal

-- the characters so far have done what they do
abbrev pub invariant-loop-c : goal.invariant-loop-c
invariant-loop-c l = option_map cursor_of l.form ≡
    all_stroked (map (stroke_by l.taking l.detail) l.yielded) (Some (cursor_of l.fn.form))
