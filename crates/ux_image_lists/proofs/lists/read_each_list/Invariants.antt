use Rattle.std.proofs.Common.{◌≡◌}
use Rattle.ux_image_lists.specs.Fields.{each}
use Rattle.ux_image_lists.specs.Lists.{codes_in, next_list}
use Rattle.ux_image_lists.proofs.lists.read_each_list.Given as goal

-- the lists so far were read, and their codes counted
abbrev pub invariant-loop-letters : goal.invariant-loop-letters
invariant-loop-letters l =
    (each l.letters-index (next_list l.version l.shortest)).Begins l.initial.rest.bytes.now
    l.all.keys l.rest.bytes.now
    × (l.first ≡ codes_in l.all.keys)
