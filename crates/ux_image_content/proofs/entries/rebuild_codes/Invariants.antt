use Rattle.std.proofs.Common.{map, take}
use Rattle.ux_image_content.specs.Walking.{Adds}
use Rattle.ux_image_content.proofs.entries.rebuild_codes.Given as goal

-- what the codes so far make was added
abbrev pub invariant-loop-code : goal.invariant-loop-code
invariant-loop-code l =
    Adds (map (λ code. (l.form, code)) (take l.code-index l.codes)) l.initial.entries.items
    l.entries.items
