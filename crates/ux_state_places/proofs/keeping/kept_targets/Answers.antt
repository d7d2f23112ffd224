use Rattle.std.proofs.Common.{List, [], ℕ, subst}
use Rattle.ux_admission.specs.Gains.{Gains, SoOfOne}
use Rattle.ux_admission.proofs.GainsLemmas.{gains_all}
use Rattle.ux_boxes.specs.Places.{place_targets}
use Rattle.ux_state_places.specs.Keeping.{IsKeptTarget}
use Rattle.ux_state_places.proofs.keeping.kept_targets.Goals as goal

pub returns : goal.returns
returns c =
    let IsSo = λ (targets : List ℕ). SoOfOne targets (IsKeptTarget c.args.places.now c.args.is_met) in
    gains_all c.push_targets.new.kept.items (IsSo (place_targets c.args.places.now c.args.n))
    (subst (λ (targets : List ℕ). Gains [] c.push_targets.new.kept.items (IsSo targets))
    c.targets_at.ensures
    (subst (λ (kept : List ℕ). Gains kept c.push_targets.new.kept.items
    (IsSo c.targets_at.result.now)) c.new-kept.ensures.items c.in_ok-push_targets.ensures))
