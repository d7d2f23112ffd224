use Rattle.std.proofs.Common.{◌≡◌, map}
use Rattle.ux_inflect.specs.Places.{kept_by}
use Rattle.ux_inflect.proofs.form.form_of.Given as goal

-- the characters so far are there
abbrev pub invariant-loop-c : goal.invariant-loop-c
invariant-loop-c l = l.left.items ≡ map (kept_by l.detail) l.yielded
