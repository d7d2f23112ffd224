use Rattle.std.proofs.Common.{◌+◌, List, length, subst}
use Rattle.std.specs.Prelude.{Option}
use Rattle.ux_grf.specs.declared.graph.GrfBox.{GrfBox}
use Rattle.ux_rules.specs.declared.step.Sign.{Sign}
use Rattle.ux_rules.specs.declared.step.Sign.TheVariants.{Free}
use Rattle.ux_rules.specs.Drafts.{SaysItem}
use Rattle.ux_rules.proofs.LineLemmas.{IsLinked, items_begin, items_next, items_end}
use Rattle.ux_rules.proofs.draft.push_items.Goals as goal

pub loop-item-init : goal.loop-item-init
loop-item-init c =
    items_begin c.args.graph.now c.args.node c.args.line.now c.args.draft.now c.lead.new.draft
    c.in_ok-place.place c.requires.inside c.requires.line c.requires.no_mark c.requires.draft
    (record { places = c.in_ok-place.ensures.places; steps = c.in_ok-place.ensures.steps })
    c.in_ok-place.ensures.place

pub loop-item-preserved : goal.loop-item-preserved
loop-item-preserved c =
    items_next c.args.graph.now c.args.node c.args.line.now c.args.draft.now c.loop-item.draft
    c.lead-in-Some.new.draft c.loop-item.place c.in_ok-place-in-Some.place c.loop-item.item-index
    c.item-item.result c.in-Some.sign c.loop-item-test.true c.item-item.is
    (subst (λ (o : Option Sign). SaysItem c.item-item.result o) c.in-Some.is c.in_ok-sign.ensures)
    c.loop-item.invariant (record {
      places = c.in_ok-place-in-Some.ensures.places;
      steps = c.in_ok-place-in-Some.ensures.steps;
    }) c.in_ok-place-in-Some.ensures.place

pub returns-clause-draft : goal.returns-clause-draft
returns-clause-draft c =
    (items_end c.args.graph.now c.args.node c.args.line.now c.args.draft.now c.loop-item.draft
    c.link.new.draft c.loop-item.place c.loop-item.item-index c.requires.inside
    c.loop-item-test.false c.requires.no_mark c.loop-item.invariant
    (subst (λ (bs : List GrfBox). IsLinked c.loop-item.draft c.loop-item.place
    (length bs + c.args.node) Free c.link.new.draft) c.as_slice-count.ensures
    (record { places = c.in_ok-link.ensures.places; steps = c.in_ok-link.ensures.steps }))).0

pub returns-clause-done : goal.returns-clause-done
returns-clause-done c =
    (items_end c.args.graph.now c.args.node c.args.line.now c.args.draft.now c.loop-item.draft
    c.link.new.draft c.loop-item.place c.loop-item.item-index c.requires.inside
    c.loop-item-test.false c.requires.no_mark c.loop-item.invariant
    (subst (λ (bs : List GrfBox). IsLinked c.loop-item.draft c.loop-item.place
    (length bs + c.args.node) Free c.link.new.draft) c.as_slice-count.ensures
    (record { places = c.in_ok-link.ensures.places; steps = c.in_ok-link.ensures.steps }))).1
