use Rattle.std.proofs.Common.{◌≡◌, ◌++◌, map, take}
use Rattle.ux_tfst_locate.specs.Sought.{link_of}
use Rattle.ux_tfst_locate.proofs.gathering.add_links.Given as goal

abbrev pub invariant-loop-link : goal.invariant-loop-link
invariant-loop-link l = l.links.items
    ≡ l.fn.links.items ++ map (link_of l.sentence) (take l.link-index l.sentence.links.items)
