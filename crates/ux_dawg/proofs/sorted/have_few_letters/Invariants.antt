use Rattle.std.proofs.Common.{◌≡◌, ◌+◌, take}
use Rattle.ux_dawg.specs.Forms.{letters_in}
use Rattle.ux_dawg.proofs.sorted.have_few_letters.Given as goal

abbrev pub invariant-loop-form : goal.invariant-loop-form
invariant-loop-form l = l.room + letters_in (take l.form-index l.forms) ≡ 4294967295
