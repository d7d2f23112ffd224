use Rattle.std.proofs.Common.{take}
use Rattle.std.specs.Prelude.{Contains, IsTrue}
use Rattle.ux_tfst_locate.specs.declared.lattice.Arc.{Arc}
use Rattle.ux_tfst_locate.specs.Reaching.{is_marked}
use Rattle.ux_tfst_locate.proofs.reaching.some_marked.Given as goal

-- no arc so far leads to a mark
abbrev pub invariant-loop-arc : goal.invariant-loop-arc
invariant-loop-arc l = (arc : Arc) → Contains (take l.arc-index l.row) arc →
    IsTrue (is_marked l.marks arc.to) → ⊥
