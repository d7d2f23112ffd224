use Rattle.std.proofs.Common.{◌≡◌, take}
use Rattle.ux_dawg.proofs.builder.build.Given as goal

-- the forms so far were added
abbrev pub invariant-loop-form : goal.invariant-loop-form
invariant-loop-form l = l.builder ≡ take l.form-index l.forms
