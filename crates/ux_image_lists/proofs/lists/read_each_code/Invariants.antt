use Rattle.ux_image_lists.specs.Fields.{each}
use Rattle.ux_image_lists.specs.Lists.{next_code}
use Rattle.ux_image_lists.proofs.lists.read_each_code.Given as goal

-- the codes so far were read
abbrev pub invariant-loop : goal.invariant-loop
invariant-loop l =
    (each l.counter (next_code l.rules l.first)).Begins l.initial.rest.bytes.now l.codes.keys
    l.rest.bytes.now
