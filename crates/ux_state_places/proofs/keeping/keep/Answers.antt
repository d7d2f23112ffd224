use Rattle.std.proofs.Common.{List, ℕ, subst}
use Rattle.std.specs.Prelude.{◌↔◌, Contains}
use Rattle.ux_boxes.specs.declared.place.Place.{Place}
use Rattle.ux_boxes.specs.Places.{place_targets}
use Rattle.ux_admission.specs.Gains.{SoOfOne}
use Rattle.ux_state_places.specs.Keeping.{IsKeptTarget}
use Rattle.ux_state_places.proofs.keeping.keep.Goals as goal

pub returns : goal.returns
returns c =
    let targets = c.in_ok-targets.targets.items in
    record {
      targets = targets;
      exact = subst (λ (places : List Place). (q : ℕ) → Contains targets q ↔
          SoOfOne (place_targets places c.args.n) (IsKeptTarget places c.args.is_met) q)
          c.deref.ensures.value c.in_ok-targets.ensures;
      set = c.set.ensures;
    }
