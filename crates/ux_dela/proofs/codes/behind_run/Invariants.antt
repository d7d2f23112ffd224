use Rattle.std.proofs.Common.{length, List, ℕ}
use denote.Text.{Utf8}
use denote.Shadow.{shadow}
use Rattle.ux_dela.proofs.RunLemmas.{IsRunTo}
use Rattle.ux_dela.proofs.codes.behind_run.Given as goal

-- the codes so far
abbrev pub invariant-loop-next : goal.invariant-loop-next
invariant-loop-next l =
    shadow (Utf8 l.rest) × ((items : List (List ℕ)) × IsRunTo l.fn.kind l.text items l.rest)

abbrev pub decreases-loop-next : goal.decreases-loop-next
decreases-loop-next l = length l.rest
