use Rattle.std.proofs.Common.{◌≡◌, take}
use Rattle.std.specs.Prelude.{map}
use Rattle.ux_elag.specs.Numbers.{link_of}
use Rattle.ux_elag.proofs.naming.named_links.Given as goal

abbrev pub invariant-loop-link : goal.invariant-loop-link
invariant-loop-link l = l.found.items ≡ map (link_of l.readings) (take l.link-index l.links)
