use Rattle.std.proofs.Common.{List, [], ◌≡◌, refl, sym, subst, vec_len}
use Rattle.ux_subsets.specs.declared.sets.Set.{Set}
use Rattle.ux_subsets.specs.declared.sets.Waiting.{Waiting}
use Rattle.ux_subsets.specs.Building.{ArePlaced}
use Rattle.ux_subsets.proofs.PlacingLemmas.{nothing_left}
use Rattle.ux_subsets.proofs.NumberingLemmas.{placed_first}
use Rattle.ux_subsets.proofs.numbering.numbered_few.Goals as goal

pub loop-one-init : goal.loop-one-init
loop-one-init c = λ new links h. subst (λ (xs : List Set). ArePlaced c.args.base xs new c.args.links.now.items links c.args.due.items) c.new-sets.ensures.items h

pub loop-one-preserved : goal.loop-one-preserved
loop-one-preserved c = λ new links h. c.loop-one.invariant new links
    (subst (λ (ws : List Waiting). ArePlaced c.args.base c.loop-one.sets.items new c.loop-one.links.items links ws) (sym c.in-Some.ensures.items)
    (placed_first c.args.base c.loop-one.sets.items c.place_among_few.new.sets.items new c.loop-one.links.items c.place_among_few.new.links.items links c.pop.new.self.items c.in-Some.one c.in_ok-place_among_few.ensures h))

pub returns : goal.returns
returns c =
    let empty : c.loop-one.due.items ≡ [] =
    nothing_left c.loop-one.due.items c.pop.new.self.items (vec_len c.loop-one.due) c.in_default.ensures.cases.0 c.in_default.ensures.rest c.in_default.ensures.items in
    c.loop-one.invariant c.loop-one.sets.items c.loop-one.links.items
    (subst (λ (ws : List Waiting). ArePlaced c.args.base c.loop-one.sets.items c.loop-one.sets.items c.loop-one.links.items c.loop-one.links.items ws) (sym empty) (refl, refl))
