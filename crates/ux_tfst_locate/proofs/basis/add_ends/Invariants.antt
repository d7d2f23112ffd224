use Rattle.ux_reading_match.specs.Readings.{MatchesNumber}
use Rattle.ux_tfst_locate.proofs.BasisLemmas.{AreEndsTo}
use Rattle.ux_tfst_locate.proofs.basis.add_ends.Given as goal

-- the ends of the arcs so far
abbrev pub invariant-loop-arc : goal.invariant-loop-arc
invariant-loop-arc l =
    AreEndsTo (MatchesNumber l.basis.alphabet.now l.basis.readings.now l.label) l.row
    l.fn.positions.items l.arc-index l.positions.items
