use Rattle.std.proofs.Common.{false, refl, sym, subst, List}
use Rattle.std.specs.Prelude.{All}
use Rattle.std.proofs.lemmas.Bool.{both_ways}
use Rattle.ux_fst2_file.specs.Labels.{FitsEdge, FitsState}
use Rattle.ux_fst2_file.specs.declared.file.Fst2Edge.{Fst2Edge}
use Rattle.ux_fst2_file.specs.declared.file.Fst2State.{Fst2State}
use Rattle.ux_fst2_file.proofs.LabelLemmas.{stop_at}
use Rattle.ux_fst2_file.proofs.labels.bad_state.Goals as goal

pub returns-then-not-fit : goal.returns-then-not-fit
returns-then-not-fit c =
    let limits = c.args.limits in
    λ number. stop_at limits c.args.states.now c.loop-place.place number c.index-states-place.result
    c.loop-place-test.true c.loop-place.invariant
    (λ fits. both_ways false refl (c.if-not-fit.ensures.1
    (subst (λ (es : List Fst2Edge). All (FitsEdge limits) es) (sym c.as_slice.ensures)
    (subst (λ (s : Fst2State). FitsState limits s) (sym c.index-states-place.is) fits))))
