use Rattle.std.proofs.Common.{arith, ◌≡◌, ◌<◌, ◌∙◌, ap, length, ℕ, List, subst, get_or}
use Rattle.std.proofs.lemmas.Grind.{get_or_default_zero}
use Rattle.ux_digraph.specs.Grouping.{AreNumbered}
use Rattle.ux_digraph.proofs.MarksLemmas.{numbering_goes_on}
use Rattle.ux_digraph.proofs.grouping.close.Goals as goal

pub loop-place-preserved : goal.loop-place-preserved
loop-place-preserved c =
    let trail = c.args.trail.now.items in
    let same : length c.as_slice-place-end.result.now ≡ length trail =
    ap (λ (xs : List ℕ). length xs) c.as_slice-place-end.ensures.value in
    let test = c.loop-place-test.true in
    let at : c.loop-place.place < length trail = omega arith in
    let is : c.index.result.now ≡ get_or trail c.loop-place.place 0 =
    c.index.ensures ∙ get_or_default_zero trail c.loop-place.place c.index.result.now at in
    numbering_goes_on c.args.marks.now.items trail c.requires.places c.args.first c.args.number
    c.loop-place.marks.items c.loop-place.place c.index.result.now c.loop-place.auto.place at is
    (rw is (c.requires.inside c.loop-place.place at)) c.loop-place.invariant

pub returns-clause-marks : goal.returns-clause-marks
returns-clause-marks c =
    let same : length c.as_slice-place-end.result.now ≡ length c.args.trail.now.items =
    ap (λ (xs : List ℕ). length xs) c.as_slice-place-end.ensures.value in
    let test = c.loop-place-test.false in
    let first = c.requires.first in
    let most = c.loop-place.auto.place-end (omega arith) in
    let all : c.loop-place.place ≡ length c.args.trail.now.items = omega arith in
    subst (λ n. AreNumbered c.args.marks.now.items c.args.first n c.args.number
    c.loop-place.marks.items) all c.loop-place.invariant
