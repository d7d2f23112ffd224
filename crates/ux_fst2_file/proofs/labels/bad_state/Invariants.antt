use Rattle.ux_fst2_file.specs.Labels.{FitsState}
use Rattle.ux_fst2_file.proofs.LabelLemmas.{AllBelow}
use Rattle.ux_fst2_file.proofs.labels.bad_state.Given as goal

abbrev pub invariant-loop-place : goal.invariant-loop-place
invariant-loop-place l = AllBelow (FitsState l.limits) l.states l.place
