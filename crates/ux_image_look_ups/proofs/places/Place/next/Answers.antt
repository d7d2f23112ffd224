use Rattle.std.proofs.Common.{List, ℕ, subst}
use Rattle.ux_image_look_ups.specs.Steps.{Puts}
use Rattle.ux_image_look_ups.proofs.PlaceLemmas.{goes-both, goes-one, no-others}
use Rattle.ux_image_look_ups.proofs.places.Place.next.Goals as goal

-- the first state alone goes on
pub returns-then-is_empty : goal.returns-then-is_empty
returns-then-is_empty c =
    let others = c.self.inside.others in
    goes-one c.args.states.now c.args.taken.now c.self.inside.first c.stepped.result others.items
    c.args.self.now c.new.result.items
    (no-others others.items others.len others.ok.0 c.if-is_empty.ensures) c.self.view_is
    c.new.ensures.items c.stepped.ensures

pub returns : goal.returns
returns c =
    let states = c.args.states.now in
    let taken = c.args.taken.now in
    goes-both states taken c.self.inside.first c.as_slice.result.now c.self.inside.others.items
    c.args.self.now c.none-next.result c.push_all.new.next c.push_all-2.new.next c.settle.new.self
    c.as_slice.ensures c.self.view_is c.none-next.ensures c.in_ok-push_all.ensures
    (subst (λ (l : List ℕ). Puts states taken l c.push_all.new.next c.push_all-2.new.next)
    c.deref.ensures.value c.in_ok-push_all-2.ensures) c.settle.ensures
