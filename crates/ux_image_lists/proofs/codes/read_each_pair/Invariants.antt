use Rattle.ux_image_lists.specs.Fields.{each}
use Rattle.ux_image_lists.specs.Lists.{pair}
use Rattle.ux_image_lists.proofs.codes.read_each_pair.Given as goal

-- the pairs so far were read
abbrev pub invariant-loop : goal.invariant-loop
invariant-loop l =
    (each l.counter (λ before. pair l.rules l.code)).Begins l.initial.rest.bytes.now l.pairs
    l.rest.bytes.now
