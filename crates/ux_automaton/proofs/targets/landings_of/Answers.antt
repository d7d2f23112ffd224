use Rattle.std.proofs.Common.{ℕ, List, ◌↔◌, ◌<◌, get_or, subst, sym}
use Rattle.std.specs.Prelude.{Contains}
use Rattle.ux_closure.specs.declared.stand.Stand.{Stand}
use Rattle.ux_automaton.specs.Kept.{store_of}
use Rattle.ux_automaton.proofs.AddingLemmas.{item_at}
use Rattle.ux_automaton.proofs.LandingLemmas.{landed_all, landed_next}
use Rattle.ux_automaton.proofs.StoreLemmas.{grows_on, stand_kept}
use Rattle.ux_automaton.proofs.targets.landings_of.Goals as goal

pub front_at-requires-clause-stands : goal.front_at-requires-clause-stands
front_at-requires-clause-stands c = λ target inside.
    stand_kept (store_of c.args.fronts.now) (store_of c.loop-end.fronts) c.requires.sound
    c.loop-end.invariant.grows target.stand (c.requires.stands target inside)

pub loop-end-preserved : goal.loop-end-preserved
loop-end-preserved c =
    let i = c.loop-end.end-index in
    let inside = c.loop-end-test.true in
    let ends = c.as_slice-end-items.result.now in
    let end = get_or ends i 0 in
    let next = landed_next c.args.targets.now ends i end inside (item_at ends i 0 inside)
    (store_of c.loop-end.fronts) (store_of c.front_at.new.fronts) c.loop-end.invariant.grows.sound
    c.in_ok-front.ensures.grows c.loop-end.landings.items c.push.new.self.items c.in_ok-front.front
    (record { there = c.in_ok-front.ensures.there; stands = c.in_ok-front.ensures.stands })
    c.in_ok-push.ensures.items
    (record { each = c.loop-end.invariant.each; all = c.loop-end.invariant.all }) in record {
      grows = grows_on (store_of c.args.fronts.now) (store_of c.loop-end.fronts)
          (store_of c.front_at.new.fronts) c.loop-end.invariant.grows c.in_ok-front.ensures.grows;
      each = next.each;
      all = next.all;
    }

pub returns-clause-landings : goal.returns-clause-landings
returns-clause-landings c = landed_all c.args.targets.now c.as_slice-end-items.result.now
    c.loop-end.end-index c.loop-end-test.false (store_of c.loop-end.fronts) c.args.after
    c.loop-end.landings.items
    (record { each = c.loop-end.invariant.each; all = c.loop-end.invariant.all })
    (λ end. subst (λ (l : List ℕ). Contains l end ↔ ((c.args.after < end) × (stand : Stand)
    × Contains c.args.targets.now (record { at = end; stand = stand })))
    (sym c.as_slice-end-items.ensures.keys) (c.in_ok-ends.ensures end))
