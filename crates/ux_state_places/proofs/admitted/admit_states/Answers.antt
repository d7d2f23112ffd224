use Rattle.ux_state_places.proofs.AdmittedLaws.{all_inside, fit_now}
use Rattle.ux_state_places.proofs.admitted.admit_states.Goals as goal

pub closers_of-requires : goal.closers_of-requires
closers_of-requires c = record {
  inside = all_inside c.deref-2.result.now (fit_now c.deref-2.result.now
      c.args.placed.now.places.items c.deref-2.ensures.value c.requires.fit);
}
