use Rattle.std.proofs.Common.{◌≡◌, ◌++◌, ◌∷◌, [], ◌+◌, get_or, sym, subst, List, ap, ◌∙◌, refl, ℕ, take}
use Rattle.std.specs.List.{AllZip}
use Rattle.ux_outputs.specs.declared.event.Event.{Event}
use Rattle.ux_walk.specs.declared.config.Found.{Found}
use Rattle.ux_walk.proofs.Derived.{IsSpelled, spelled_more, spelled_all, derived_exactly, derived_once}
use Rattle.ux_walk.proofs.Stepping.{item_at}
use Rattle.ux_walk.proofs.reached.Reached.derivations.Goals as goal

pub loop-found-preserved : goal.loop-found-preserved
loop-found-preserved c =
    let all = c.as_slice-found-items.result.now in
    let none : Found = record { end = 0; events = 0 } in
    let found = get_or all c.loop-found.found-index none in
    let derivation : ℕ × List Event = (found.end, c.in_ok-events.events.items) in
    let is : c.push.new.self.items ≡ c.loop-found.derivations.items ++ derivation ∷ [] =
    c.in_ok-push.ensures.items ∙ ap (λ (l : List Event).
    c.loop-found.derivations.items ++ (found.end, l) ∷ []) c.new.ensures in
    subst (λ (l : List (ℕ × List Event)). AllZip (IsSpelled c.args.self.now)
    (take (c.loop-found.found-index + 1) all) l) (sym is)
    (spelled_more c.args.self.now all c.loop-found.found-index found
    c.loop-found.derivations.items derivation c.loop-found-test.true
    (item_at all c.loop-found.found-index none c.loop-found-test.true) c.loop-found.invariant
    (record { end = refl; events = c.in_ok-events.ensures }))

pub returns-clause-exactly : goal.returns-clause-exactly
returns-clause-exactly c = λ v visit end events.
    derived_exactly c.args.self.now c.requires c.args.visit c.in_ok-of_visit.of_visit.keys
    (c.in_ok-of_visit.ensures c.requires.found_grouped) c.loop-found.derivations.items
    (subst (λ (l : List Found). AllZip (IsSpelled c.args.self.now) l
    c.loop-found.derivations.items) c.as_slice-found-items.ensures.keys
    (spelled_all c.args.self.now c.as_slice-found-items.result.now c.loop-found.found-index
    c.loop-found.derivations.items c.loop-found-test.false c.loop-found.invariant)) v visit
    c.visits_stand_once.ensures end events

pub returns-clause-once : goal.returns-clause-once
returns-clause-once c =
    derived_once c.args.self.now c.requires c.args.visit c.in_ok-of_visit.of_visit.keys
    (c.in_ok-of_visit.ensures c.requires.found_grouped) c.loop-found.derivations.items
    (subst (λ (l : List Found). AllZip (IsSpelled c.args.self.now) l
    c.loop-found.derivations.items) c.as_slice-found-items.ensures.keys
    (spelled_all c.args.self.now c.as_slice-found-items.result.now c.loop-found.found-index
    c.loop-found.derivations.items c.loop-found-test.false c.loop-found.invariant))
    c.stand_once.ensures c.links_stand_once.ensures c.texts_stand_once.ensures
