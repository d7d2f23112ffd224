use Rattle.std.proofs.Common.{sym, subst, ◌∙◌, ◌+◌, List, get_or, take}
use Rattle.std.specs.List.{AllZip}
use Rattle.ux_outputs.specs.declared.event.Event.{Event}
use Rattle.ux_walk.specs.declared.noted.Noted.TheVariants.{Take}
use Rattle.ux_walk.specs.Configurations.{texts_of}
use Rattle.ux_walk.proofs.Derived.{Means, means_more, means_all}
use Rattle.ux_walk.proofs.Stepping.{item_at}
use Rattle.ux_walk.proofs.reached.Reached.spell.Goals as goal

pub loop-noted-preserved : goal.loop-noted-preserved
loop-noted-preserved c =
    let texts = texts_of c.args.self.now in
    let all = c.as_slice-noted-items.result.now in
    let index = c.loop-noted.noted-index in
    let noted = get_or all index (Take 0 0) in
    subst (λ (l : List Event). AllZip (Means texts) (take (index + 1) all) l)
    (sym c.in_ok-push.ensures.items)
    (means_more texts all index noted c.loop-noted.events.items c.in_ok-event.event
    c.loop-noted-test.true (item_at all index (Take 0 0) c.loop-noted-test.true)
    c.loop-noted.invariant c.in_ok-event.ensures)

pub returns : goal.returns
returns c = λ before tells.
    means_all (texts_of c.args.self.now) c.as_slice-noted-items.result.now tells.listed
    c.loop-noted.noted-index c.loop-noted.events.items before c.loop-noted-test.false
    (c.as_slice-noted-items.ensures.value ∙ c.in_ok-listed.ensures tells.listed tells.names)
    c.loop-noted.invariant tells.each
