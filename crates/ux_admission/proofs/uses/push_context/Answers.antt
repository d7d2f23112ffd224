use Rattle.std.proofs.Common.{◌≡◌, [], ◌∷◌, ◌++◌, get_or, refl}
use Rattle.std.proofs.lemmas.List.{get_or_default}
use Rattle.ux_admission.specs.declared.uses.Link.{Link}
use Rattle.ux_admission.specs.Gains.{SoOfOne}
use Rattle.ux_admission.specs.Uses.{IsJump}
use Rattle.ux_admission.proofs.UsesLemmas.{gains_own}
use Rattle.ux_admission.proofs.GainsLemmas.{gains_then, gains_item, gains_items}
use Rattle.ux_admission.proofs.uses.push_context.Goals as goal

pub loop-place-preserved : goal.loop-place-preserved
loop-place-preserved c =
    let opening : Link = record c.args.step { is_negative = c.args.is_negative } in
    let place = get_or c.args.closed.now c.loop-place.place-index 0 in
    gains_item (c.args.links.now.items ++ opening ∷ []) c.loop-place.links.items
    c.push-in-loop-place.new.self.items c.args.closed.now c.loop-place.place-index place
    (IsJump c.args.base c.args.step) c.loop-place-test.true
    (get_or_default c.args.closed.now c.loop-place.place-index 0 place c.loop-place-test.true)
    c.loop-place.invariant
    (gains_own c.loop-place.links.items c.push-in-loop-place.new.self.items _
    c.in_ok-push-2.ensures.items)

pub returns : goal.returns
returns c =
    let opening : Link = record c.args.step { is_negative = c.args.is_negative } in
    gains_then c.args.links.now.items (c.args.links.now.items ++ opening ∷ [])
    c.loop-place.links.items (λ link. opening ≡ link)
    (SoOfOne c.args.closed.now (IsJump c.args.base c.args.step))
    (gains_own c.args.links.now.items (c.args.links.now.items ++ opening ∷ []) opening refl)
    (gains_items (c.args.links.now.items ++ opening ∷ []) c.loop-place.links.items
    c.args.closed.now c.loop-place.place-index (IsJump c.args.base c.args.step)
    c.loop-place-test.false c.loop-place.invariant)
