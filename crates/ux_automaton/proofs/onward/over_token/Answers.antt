use Rattle.std.proofs.Common.{List, ℕ, ◌+◌, ◌↔◌, subst, sym}
use Rattle.std.specs.Prelude.{Contains}
use Rattle.ux_closure.specs.declared.stand.Stand.{Stand}
use Rattle.ux_outputs.specs.Rendering.{skip}
use Rattle.ux_automaton.specs.declared.target.Target.{Target}
use Rattle.ux_automaton.specs.Fronts.{HasStand}
use Rattle.ux_automaton.specs.Kept.{store_of}
use Rattle.ux_walk.specs.Settings.{masked_setting}
use Rattle.ux_automaton.specs.Targets.{IsTarget}
use Rattle.ux_automaton.proofs.CacheLemmas.{through}
use Rattle.ux_automaton.proofs.FrontIndexLemmas.{indexes_kept, likely_targets}
use Rattle.ux_automaton.proofs.OverLemmas.{front_over, target_stand}
use Rattle.ux_automaton.proofs.Results.{on_both, on_ok}
use Rattle.ux_automaton.proofs.StoreLemmas.{has_stand}
use Rattle.ux_automaton.proofs.onward.over_token.Goals as goal

pub front_at-requires-clause-stands : goal.front_at-requires-clause-stands
front_at-requires-clause-stands c = λ target inside.
    target_stand (masked_setting c.args.masked.now) (HasStand (store_of c.args.fronts.now) c.args.front)
    c.as_slice-2.result.now c.args.at 0
    (λ t. through (subst (λ (l : List Target). Contains l t
    ↔ IsTarget (masked_setting c.args.masked.now) c.args.at (Contains c.as_slice.result.now) t)
    (sym c.as_slice-2.ensures.value) (c.in_ok-targets.ensures.targets t))
    (subst (λ (l : List Stand).
    IsTarget (masked_setting c.args.masked.now) c.args.at (Contains l) t
    ↔ IsTarget (masked_setting c.args.masked.now) c.args.at
    (HasStand (store_of c.args.fronts.now) c.args.front) t)
    (sym c.as_slice.ensures.value)
    (likely_targets c.args.masked.now c.args.at
    (HasStand (store_of c.args.fronts.now) c.args.front) c.in_ok-few.few.items
    c.skip-place.result c.number-number.result c.skip-place.ensures c.number-number.ensures.place
    c.in_ok-few.ensures.likely t)))
    (store_of c.args.fronts.now)
    (has_stand (store_of c.args.fronts.now) c.requires.sound c.args.front) target inside

pub returns-clause-over : goal.returns-clause-over
returns-clause-over c = on_both c.front_at.result _ _ _ (λ next grows has stack.
    front_over (masked_setting c.args.masked.now) (HasStand (store_of c.args.fronts.now) c.args.front)
    c.as_slice-2.result.now c.args.at (skip c.args.masked.now.text.now c.args.at + 1)
    (λ t. through (subst (λ (l : List Target). Contains l t
    ↔ IsTarget (masked_setting c.args.masked.now) c.args.at (Contains c.as_slice.result.now) t)
    (sym c.as_slice-2.ensures.value) (c.in_ok-targets.ensures.targets t))
    (subst (λ (l : List Stand).
    IsTarget (masked_setting c.args.masked.now) c.args.at (Contains l) t
    ↔ IsTarget (masked_setting c.args.masked.now) c.args.at
    (HasStand (store_of c.args.fronts.now) c.args.front) t)
    (sym c.as_slice.ensures.value)
    (likely_targets c.args.masked.now c.args.at
    (HasStand (store_of c.args.fronts.now) c.args.front) c.in_ok-few.few.items
    c.skip-place.result c.number-number.result c.skip-place.ensures c.number-number.ensures.place
    c.in_ok-few.ensures.likely t)))
    (store_of c.args.fronts.now) (store_of c.front_at.new.fronts) c.requires.sound grows
    (has_stand (store_of c.args.fronts.now) c.requires.sound c.args.front) next
    (λ stand. subst (λ (n : ℕ). HasStand (store_of c.front_at.new.fronts) next stand
    ↔ Contains c.as_slice-2.result.now (record { at = n + 1; stand = stand }))
    c.skip-place.ensures (has stand)) stack) c.front_at.ensures.grows c.front_at.ensures.stands

pub returns-clause-fronts : goal.returns-clause-fronts
returns-clause-fronts c = on_ok c.front_at.result _ _ (λ grows.
    indexes_kept c.args.masked.now (store_of c.args.fronts.now) (store_of c.front_at.new.fronts) _
    c.requires.sound grows c.in_ok-few.ensures.indexed) c.front_at.ensures.grows
