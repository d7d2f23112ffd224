use Rattle.std.proofs.Common.{drop}
use Rattle.ux_tokens.proofs.FirstLemmas.{IsRun}
use Rattle.ux_tokens.proofs.first.run_len.Given as goal

-- the bytes so far are letters
abbrev pub invariant-loop-place : goal.invariant-loop-place
invariant-loop-place l = IsRun l.alphabet l.text l.place (drop l.place l.text)
