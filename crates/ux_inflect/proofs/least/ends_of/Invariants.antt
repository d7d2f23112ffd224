use Rattle.std.proofs.Common.{◌≡◌, map, take}
use Rattle.ux_inflect.specs.declared.exploring.Link.{Link}
use Rattle.ux_inflect.proofs.least.ends_of.Given as goal

-- the ends so far are there
abbrev pub invariant-loop-link : goal.invariant-loop-link
invariant-loop-link l = l.ends.items ≡ map (λ (link : Link). link.to) (take l.link-index l.row)
