use Rattle.ux_flatten.proofs.CutLemmas.{NoneBelow}
use Rattle.ux_flatten.proofs.cuts.first_in.Given as goal

-- no cut in the graphs so far
abbrev pub invariant-loop-k : goal.invariant-loop-k
invariant-loop-k l = NoneBelow l.graphs l.negative l.made l.k
