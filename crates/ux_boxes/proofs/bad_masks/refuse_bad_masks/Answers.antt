use Rattle.std.proofs.Common.{ℕ, List, sym, ◌∙◌, subst}
use Rattle.ux_grf.specs.declared.graph.GrfBox.{GrfBox}
use Rattle.ux_boxes.specs.BadMasks.{IsFirstBadBox}
use Rattle.ux_boxes.specs.MaskTexts.{HaveMasks}
use Rattle.ux_boxes.specs.Refusing.{drawn, IsFirstBadMask}
use Rattle.ux_boxes.proofs.MissingLemmas.{told_some, told_none}
use Rattle.ux_boxes.proofs.RefusingLemmas.{good_more, good_all, found_bad}
use Rattle.ux_boxes.proofs.bad_masks.refuse_bad_masks.Goals as goal

pub returns-in-Some-clause-err : goal.returns-in-Some-clause-err
returns-in-Some-clause-err c =
    let graphs = c.args.graphs.now in
    let boxes = c.as_slice.result.now in
    subst (λ (name : List ℕ). IsFirstBadMask (drawn graphs) name c.in-Some.bad.node
    c.in-Some.bad.place) (sym (c.in_ok-from_str.ensures ∙ c.as_str.ensures.value))
    (found_bad graphs c.loop-name.name-index c.loop-name-item.result c.loop-name-test.true
    c.loop-name-item.is c.loop-name.invariant c.in-Some.bad
    (subst (λ (l : List GrfBox). IsFirstBadBox l c.in-Some.bad) c.as_slice.ensures
    (told_some (HaveMasks boxes) (IsFirstBadBox boxes) c.in_ok-bad.field-0 c.in-Some.bad
    c.in-Some.is c.in_ok-bad.ensures)))

pub loop-name-preserved : goal.loop-name-preserved
loop-name-preserved c =
    let boxes = c.as_slice.result.now in
    good_more HaveMasks c.args.graphs.now c.loop-name.name-index c.loop-name-item.result
    c.loop-name-test.true c.loop-name-item.is c.loop-name.invariant
    (subst HaveMasks c.as_slice.ensures
    (told_none (HaveMasks boxes) (IsFirstBadBox boxes) c.in_ok-bad.field-0 c.in_default.is
    c.in_ok-bad.ensures))

pub returns-clause-ok : goal.returns-clause-ok
returns-clause-ok c =
    good_all HaveMasks c.args.graphs.now c.loop-name.name-index c.loop-name-test.false
    c.loop-name.invariant
