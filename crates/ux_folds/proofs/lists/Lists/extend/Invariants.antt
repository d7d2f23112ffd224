use Rattle.std.proofs.Common.{take}
use Rattle.ux_folds.specs.Lists.{IsMore}
use Rattle.ux_folds.proofs.lists.Lists.extend.Given as goal

-- the elements so far are more
abbrev pub invariant-loop-item : goal.invariant-loop-item
invariant-loop-item g l = IsMore l.fn.self.links.keys l.self.links.keys l.front
    (take l.item-index l.items) l.number
