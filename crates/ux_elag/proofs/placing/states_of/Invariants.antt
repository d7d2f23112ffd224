use Rattle.std.proofs.Common.{◌≡◌, ◌-◌, ◌∷◌, take}
use Rattle.std.specs.Prelude.{flat_map}
use Rattle.ux_elag.specs.Numbers.{ends_of}
use Rattle.ux_elag.proofs.placing.states_of.Given as goal

abbrev pub invariant-loop-link : goal.invariant-loop-link
invariant-loop-link l =
    l.states.items ≡ 0 ∷ (l.sentence.states - 1) ∷ flat_map ends_of (take l.link-index l.links)
