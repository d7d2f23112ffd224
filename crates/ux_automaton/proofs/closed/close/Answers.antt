use Rattle.std.proofs.Common.{List, ◌+◌, ◌↔◌, subst, sym, refl}
use Rattle.std.specs.Prelude.{Contains}
use Rattle.ux_closure.specs.declared.stand.Stand.{Stand}
use Rattle.ux_automaton.specs.Fronts.{HasStand, HoldsIn, NamesStack}
use Rattle.ux_automaton.specs.Targets.{IsOver}
use Rattle.ux_automaton.specs.Kept.{store_of}
use Rattle.ux_walk.specs.Settings.{masked_setting}
use Rattle.ux_automaton.proofs.StepLemmas.{close_right}
use Rattle.ux_automaton.proofs.StoreLemmas.{named_stand, stand_kept}
use Rattle.ux_automaton.proofs.closed.close.Goals as goal

pub front_of-requires-clause-stands : goal.front_of-requires-clause-stands
front_of-requires-clause-stands c = λ stand inside.
    named_stand (store_of c.close.new.self).stacks (store_of c.close.new.self).fronts stand
    (c.in_ok-closure.ensures.closure.named stand
    (subst (λ (l : List Stand). Contains l stand) c.as_slice-stands.ensures.value inside))

pub over_space-requires-clause-stands : goal.over_space-requires-clause-stands
over_space-requires-clause-stands c = λ stand inside.
    stand_kept (store_of c.close.new.self) (store_of c.front_of.new.self)
    c.in_ok-closure.ensures.grows.sound c.in_ok-closed.ensures.grows stand
    (named_stand (store_of c.close.new.self).stacks (store_of c.close.new.self).fronts stand
    (c.in_ok-closure.ensures.closure.named stand
    (subst (λ (l : List Stand). Contains l stand) c.as_slice-stands.ensures.value inside)))

pub returns-clause-closed : goal.returns-clause-closed
returns-clause-closed c = close_right (masked_setting c.args.masked.now) c.requires.table.belongs
    (store_of c.args.fronts.now) (store_of c.close.new.self) (store_of c.front_of.new.self)
    (store_of c.over_space.new.fronts) c.args.front c.args.is_spaced c.args.at c.requires.tells
    c.in_ok-closure.closure (record {
      front = c.in_ok-closed.closed;
      ends = c.in_ok-closure.closure.ends;
      has_masks = c.have_mask.result;
      takes_tokens = c.may_take.result;
      over_space = c.in_ok-over_space.over_space;
    }) c.requires.sound c.in_ok-closure.ensures.grows c.in_ok-closed.ensures.grows
    c.in_ok-over_space.ensures.grows c.requires.there c.in_ok-closure.ensures.closure
    (λ stand inside. named_stand (store_of c.close.new.self).stacks (store_of c.close.new.self).fronts
    stand (c.in_ok-closure.ensures.closure.named stand inside)) refl c.in_ok-closed.ensures.there
    (λ stand. subst (λ (l : List Stand).
    HasStand (store_of c.front_of.new.self) c.in_ok-closed.closed stand ↔ Contains l stand)
    c.as_slice-stands.ensures.value (c.in_ok-closed.ensures.stands stand))
    c.in_ok-over_space.ensures.there
    (λ space stack. subst (λ (l : List Stand).
    HoldsIn (store_of c.over_space.new.fronts) c.in_ok-over_space.over_space stack
    ↔ IsOver (masked_setting c.args.masked.now)
    (NamesStack (store_of c.front_of.new.self).stacks (Contains l)) c.args.at (c.args.at + 1) stack)
    c.as_slice-stands.ensures.value (c.in_ok-over_space.ensures.spaced space stack))
    c.in_ok-over_space.ensures.bare
    (λ none stand edge mask inside. c.have_mask.ensures none stand edge mask
    (subst (λ (l : List Stand). Contains l stand) (sym c.as_slice-stands.ensures.value) inside))
    (λ none stand edge inside. c.may_take.ensures none stand edge
    (subst (λ (l : List Stand). Contains l stand) (sym c.as_slice-stands.ensures.value) inside))
