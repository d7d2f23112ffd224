use Rattle.std.proofs.Common.{◌≡◌, take}
use Rattle.std.specs.Prelude.{map}
use Rattle.ux_elag.specs.Numbers.{told}
use Rattle.ux_elag.proofs.naming.told_links.Given as goal

abbrev pub invariant-loop-link : goal.invariant-loop-link
invariant-loop-link l = l.found.items ≡ map told (take l.link-index l.links)
