use Rattle.std.proofs.Common.{List, ◌+◌, ◌↔◌, subst, sym}
use Rattle.std.specs.Prelude.{Contains}
use Rattle.ux_automaton.specs.declared.target.Target.{Target}
use Rattle.ux_automaton.specs.Kept.{store_of}
use Rattle.ux_walk.specs.Settings.{masked_setting}
use Rattle.ux_automaton.specs.Targets.{IsTarget}
use Rattle.ux_automaton.proofs.OverLemmas.{front_over, target_stand}
use Rattle.ux_automaton.proofs.Results.{on_both}
use Rattle.ux_automaton.proofs.closed.over_space.Goals as goal

pub front_at-requires-clause-stands : goal.front_at-requires-clause-stands
front_at-requires-clause-stands c = λ target inside.
    target_stand (masked_setting c.args.masked.now) (Contains c.args.stands.now) c.as_slice.result.now
    c.args.at 0 (λ t. subst (λ (l : List Target). Contains l t
    ↔ IsTarget (masked_setting c.args.masked.now) c.args.at (Contains c.args.stands.now) t)
    (sym c.as_slice.ensures.value) (c.in_ok-targets.ensures.targets t))
    (store_of c.args.fronts.now) c.requires.stands target inside

pub returns-clause-spaced : goal.returns-clause-spaced
returns-clause-spaced c = on_both c.front_at.result _ _ _ (λ front grows has space stack.
    front_over (masked_setting c.args.masked.now) (Contains c.args.stands.now) c.as_slice.result.now
    c.args.at (c.args.at + 1) (λ t. subst (λ (l : List Target). Contains l t
    ↔ IsTarget (masked_setting c.args.masked.now) c.args.at (Contains c.args.stands.now) t)
    (sym c.as_slice.ensures.value) (c.in_ok-targets.ensures.targets t))
    (store_of c.args.fronts.now) (store_of c.front_at.new.fronts) c.requires.sound grows
    c.requires.stands front has stack) c.front_at.ensures.grows c.front_at.ensures.stands
