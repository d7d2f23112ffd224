use Rattle.std.proofs.Common.{ℕ, ◌<◌, ◌≡◌}
use Rattle.std.specs.Prelude.{Some, slice_get}
use Rattle.ux_reading_match.specs.Readings.{MatchesNumber}
use Rattle.ux_tfst_locate.specs.declared.lattice.Arc.{Arc}
use Rattle.ux_tfst_locate.proofs.beginning.some_match.Given as goal

-- the label matches the reading of none of the arcs so far
abbrev pub invariant-loop-arc : goal.invariant-loop-arc
invariant-loop-arc l = (n : ℕ) (arc : Arc) → n < l.arc-index → slice_get l.row n ≡ Some arc →
    MatchesNumber l.basis.alphabet.now l.basis.readings.now l.label arc.reading → ⊥
