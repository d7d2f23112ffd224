use Rattle.std.proofs.Common.{take, flat_map}
use Rattle.ux_image_content.specs.Contents.{told_by}
use Rattle.ux_image_content.specs.Walking.{Adds}
use Rattle.ux_image_content.proofs.entries.rebuild_all.Given as goal

-- what the codes of the forms so far make was added
abbrev pub invariant-loop-form : goal.invariant-loop-form
invariant-loop-form l =
    Adds (flat_map (told_by l.lists.keys) (take l.form-index l.forms)) l.initial.entries.items
    l.entries.items
