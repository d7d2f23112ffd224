use Rattle.std.proofs.Common.{length}
use denote.Text.{Utf8}
use denote.Shadow.{shadow}
use Rattle.ux_dela.proofs.RunLemmas.{IsRunTo}
use Rattle.ux_dela.proofs.codes.read_run.Given as goal

-- the codes so far
abbrev pub invariant-loop-codes : goal.invariant-loop-codes
invariant-loop-codes l =
    shadow (Utf8 l.rest) × IsRunTo l.fn.kind l.text l.codes l.rest

abbrev pub decreases-loop-codes : goal.decreases-loop-codes
decreases-loop-codes l = length l.rest
