use Rattle.std.proofs.Common.{◌↔◌, ◌∙◌, List, get_or, rules, subst}
use Rattle.std.specs.Prelude.{Contains}
use Rattle.ux_walk.specs.declared.config.Found.{Found}
use Rattle.ux_walk.proofs.Collecting.{item_at, seen_all}
use Rattle.ux_walk.proofs.Derived.{set_more, set_none}
use Rattle.ux_walk.proofs.MatchingLemmas.{through}
use Rattle.ux_walk.proofs.reached.Reached.found_of.Goals as goal

abbrev nothing : Found
nothing = record { end = 0; events = 0 }

pub loop-derivation-init : goal.loop-derivation-init
loop-derivation-init c = set_none _ c.as_slice-derivation-items.result.now (search rules)

pub loop-derivation-preserved : goal.loop-derivation-preserved
loop-derivation-preserved c =
    let all = c.as_slice-derivation-items.result.now in
    let index = c.loop-derivation.derivation-index in
    let inside = c.loop-derivation-test.true in
    set_more all c.loop-derivation.found.keys c.put.new.set.keys index (get_or all index nothing)
    inside (item_at all index nothing inside) c.loop-derivation.invariant c.in_ok-put.ensures

pub returns : goal.returns
returns c = λ grouped f.
    let is = seen_all c.as_slice-derivation-items.result.now c.loop-derivation.derivation-index
    c.loop-derivation-test.false ∙ c.as_slice-derivation-items.ensures.value in
    through (subst (λ (l : List Found). Contains c.loop-derivation.found.keys f ↔ Contains l f) is
    (c.loop-derivation.invariant f)) (c.in_ok-listed.ensures grouped f)
