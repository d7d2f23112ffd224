use Rattle.std.proofs.Common.{List, reverse, take}
use Rattle.ux_walk.specs.Links.{AreBelow, Names}
use Rattle.ux_walk.proofs.AppendLemmas.{IsPut}
use Rattle.ux_walk.proofs.lists.Lists.append.Given as goal

-- the elements so far stand before those of the earlier list
abbrev pub invariant-loop-item : goal.invariant-loop-item
invariant-loop-item g l = (xs : List _) → AreBelow l.fn.self.links.keys →
    Names l.fn.self.links.keys l.earlier xs →
    IsPut l.fn.self.links.keys l.self.links.keys l.number (reverse (take l.item-index l.item-items))
    xs
