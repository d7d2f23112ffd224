use Rattle.std.proofs.Common.{◌≡◌, ◌++◌, List}
use Rattle.ux_folds.specs.Lists.{Names}
use Rattle.ux_folds.proofs.lists.Lists.items.Given as goal

-- the list, backwards, is what was read and what is left
abbrev pub invariant-loop-link : goal.invariant-loop-link
invariant-loop-link g l = (xs : List _) → Names l.self.links.keys l.number xs →
    (ys : List _) × Names l.self.links.keys l.rest ys × (xs ≡ l.items.items ++ ys)

abbrev pub decreases-loop-link : goal.decreases-loop-link
decreases-loop-link g l = l.rest
