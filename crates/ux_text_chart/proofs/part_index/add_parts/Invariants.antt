use Rattle.std.proofs.Common.{ℕ, List}
use Rattle.ux_walk.specs.Literals.{AreReady}
use Rattle.ux_text_chart.specs.PartIndexes.{AreIndexed}
use Rattle.ux_text_chart.proofs.part_index.add_parts.Given as goal

-- the parts so far are indexed
abbrev pub invariant-loop-place : goal.invariant-loop-place
invariant-loop-place l = (texts : List (List ℕ)) → AreReady l.alphabet texts l.words →
    AreIndexed l.alphabet texts l.net l.parts l.place l.beginnings.items l.everywhere.items
