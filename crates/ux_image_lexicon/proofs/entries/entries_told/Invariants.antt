use Rattle.std.proofs.Common.{◌≡◌, take}
use Rattle.ux_image_lexicon.specs.Told.{entries_told}
use Rattle.ux_image_lexicon.proofs.entries.entries_told.Given as goal

-- what is told of the forms so far was put
abbrev pub invariant-loop-form : goal.invariant-loop-form
invariant-loop-form l = l.entries.items ≡ entries_told l.lists (take l.form-index l.forms)
