use Rattle.std.proofs.Common.{take}
use Rattle.std.specs.List.{AllZip}
use Rattle.ux_walk.specs.Configurations.{texts_of}
use Rattle.ux_walk.proofs.Derived.{Means}
use Rattle.ux_walk.proofs.reached.Reached.spell.Given as goal

-- the noted events so far are spelled
abbrev pub invariant-loop-noted : goal.invariant-loop-noted
invariant-loop-noted l = AllZip (Means (texts_of l.self)) (take l.noted-index l.noted-items)
    l.events.items
