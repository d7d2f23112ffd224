use Rattle.std.proofs.Common.{List, ℕ, ◌+◌, ◌↔◌, subst, sym, ◌∙◌}
use Rattle.std.specs.Prelude.{Contains}
use Rattle.ux_closure.specs.declared.stand.Stand.{Stand}
use Rattle.ux_outputs.specs.Rendering.{skip}
use Rattle.ux_automaton.specs.declared.target.Target.{Target}
use Rattle.ux_automaton.specs.Fronts.{HasStand}
use Rattle.ux_automaton.specs.Kept.{store_of}
use Rattle.ux_walk.specs.Settings.{masked_setting}
use Rattle.ux_automaton.specs.Landings.{AreLandings}
use Rattle.ux_automaton.specs.Targets.{IsTarget}
use Rattle.ux_automaton.proofs.OverLemmas.{exact_by, target_stand}
use Rattle.ux_automaton.proofs.StepLemmas.{anew_onward}
use Rattle.ux_automaton.proofs.StoreLemmas.{grows_on, has_stand, stand_kept}
use Rattle.ux_automaton.proofs.onward.onward_anew.Goals as goal

pub front_at-requires-clause-stands : goal.front_at-requires-clause-stands
front_at-requires-clause-stands c = λ target inside.
    target_stand (masked_setting c.args.masked.now) (HasStand (store_of c.args.fronts.now) c.args.front)
    c.as_slice-2.result.now c.args.at 0
    (exact_by (masked_setting c.args.masked.now) c.args.at (Contains c.as_slice.result.now)
    (HasStand (store_of c.args.fronts.now) c.args.front)
    (λ s. subst (λ (l : List Stand). Contains l s
    ↔ HasStand (store_of c.args.fronts.now) c.args.front s) (sym c.as_slice.ensures.value)
    (c.in_ok-stands.ensures.stands s)) c.as_slice-2.result.now
    (λ t. subst (λ (l : List Target). Contains l t
    ↔ IsTarget (masked_setting c.args.masked.now) c.args.at (Contains c.as_slice.result.now) t)
    (sym c.as_slice-2.ensures.value) (c.in_ok-targets.ensures.targets t)))
    (store_of c.args.fronts.now)
    (has_stand (store_of c.args.fronts.now) c.requires.sound c.args.front) target inside

pub landings_of-requires-clause-stands : goal.landings_of-requires-clause-stands
landings_of-requires-clause-stands c = λ target inside.
    stand_kept (store_of c.args.fronts.now) (store_of c.front_at.new.fronts) c.requires.sound
    c.in_ok-over_token.ensures.grows target.stand
    (target_stand (masked_setting c.args.masked.now) (HasStand (store_of c.args.fronts.now) c.args.front)
    c.as_slice-3.result.now c.args.at 0
    (exact_by (masked_setting c.args.masked.now) c.args.at (Contains c.as_slice.result.now)
    (HasStand (store_of c.args.fronts.now) c.args.front)
    (λ s. subst (λ (l : List Stand). Contains l s
    ↔ HasStand (store_of c.args.fronts.now) c.args.front s) (sym c.as_slice.ensures.value)
    (c.in_ok-stands.ensures.stands s)) c.as_slice-3.result.now
    (λ t. subst (λ (l : List Target). Contains l t
    ↔ IsTarget (masked_setting c.args.masked.now) c.args.at (Contains c.as_slice.result.now) t)
    (sym c.as_slice-3.ensures.value) (c.in_ok-targets.ensures.targets t)))
    (store_of c.args.fronts.now)
    (has_stand (store_of c.args.fronts.now) c.requires.sound c.args.front) target inside)

pub returns-clause-onward : goal.returns-clause-onward
returns-clause-onward c = anew_onward (masked_setting c.args.masked.now) c.requires.table.belongs
    (store_of c.args.fronts.now) (store_of c.front_at.new.fronts)
    (store_of c.landings_of.new.fronts) c.args.front c.args.at c.as_slice-3.result.now _
    c.requires.sound c.in_ok-over_token.ensures.grows c.in_ok-landings.ensures.grows
    (grows_on (store_of c.args.fronts.now) (store_of c.front_at.new.fronts)
    (store_of c.landings_of.new.fronts) c.in_ok-over_token.ensures.grows
    c.in_ok-landings.ensures.grows) c.requires.there c.requires.within
    (has_stand (store_of c.args.fronts.now) c.requires.sound c.args.front)
    (exact_by (masked_setting c.args.masked.now) c.args.at (Contains c.as_slice.result.now)
    (HasStand (store_of c.args.fronts.now) c.args.front)
    (λ s. subst (λ (l : List Stand). Contains l s
    ↔ HasStand (store_of c.args.fronts.now) c.args.front s) (sym c.as_slice.ensures.value)
    (c.in_ok-stands.ensures.stands s)) c.as_slice-3.result.now
    (λ t. subst (λ (l : List Target). Contains l t
    ↔ IsTarget (masked_setting c.args.masked.now) c.args.at (Contains c.as_slice.result.now) t)
    (sym c.as_slice-3.ensures.value) (c.in_ok-targets.ensures.targets t))) c.in_ok-over_token.ensures.there
    (λ stand. subst (λ (l : List Target). HasStand (store_of c.front_at.new.fronts)
    c.in_ok-over_token.over_token stand
    ↔ Contains l (record {
      at = skip c.args.masked.now.text.now c.args.at + 1;
      stand = stand;
    })) (c.as_slice-2.ensures.value ∙ sym c.as_slice-3.ensures.value)
    (subst (λ (n : ℕ). HasStand (store_of c.front_at.new.fronts) c.in_ok-over_token.over_token stand
    ↔ Contains c.as_slice-2.result.now (record { at = n + 1; stand = stand }))
    c.skip-place.ensures (c.in_ok-over_token.ensures.stands stand)))
    (subst (λ (n : ℕ). AreLandings (store_of c.landings_of.new.fronts) c.as_slice-3.result.now
    (n + 1) c.in_ok-landings.landings.items) c.skip-place.ensures c.in_ok-landings.ensures.landings)
