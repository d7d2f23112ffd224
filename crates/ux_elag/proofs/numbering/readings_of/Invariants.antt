use Rattle.std.proofs.Common.{◌≡◌, take}
use Rattle.std.specs.Prelude.{map}
use Rattle.ux_elag.specs.Numbering.{link_at}
use Rattle.ux_elag.proofs.numbering.readings_of.Given as goal

abbrev pub invariant-loop-index : goal.invariant-loop-index
invariant-loop-index l =
    l.readings.items ≡ map (λ k. (link_at l.links k).reading) (take l.index-index l.indices)
