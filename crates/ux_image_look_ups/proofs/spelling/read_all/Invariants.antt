use Rattle.std.proofs.Common.{◌≡◌, length}
use Rattle.ux_image_look_ups.specs.Spelling.{form_at, table}
use Rattle.ux_image_look_ups.proofs.spelling.read_all.Given as goal

-- the forms so far
abbrev pub invariant-loop-place : goal.invariant-loop-place
invariant-loop-place l =
    l.found.items ≡ table (form_at (length l.rows) l.rows l.state) l.place
