use Rattle.ux_chart.proofs.SharingLemmas.{GraphsUpTo}
use Rattle.ux_chart.proofs.sharing.Sharing.of.Given as goal

-- the graphs so far are unspaced
abbrev pub invariant-loop-before : goal.invariant-loop-before
invariant-loop-before l = GraphsUpTo l.net l.before
