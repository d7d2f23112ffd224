use Rattle.std.proofs.Common.{drop, [], ◌↔◌}
use Rattle.ux_dawg.specs.Forms.{AreSorted}
use Rattle.ux_dawg.proofs.sorted.are_sorted.Given as goal

-- the forms are sorted exactly where those that are left are, behind the last one
abbrev pub invariant-loop-form : goal.invariant-loop-form
invariant-loop-form l = AreSorted l.last (drop l.form-index l.forms) ↔ AreSorted [] l.forms
