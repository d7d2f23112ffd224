use Rattle.std.proofs.Common.{arith, rules, ℕ, ◌+◌, ◌<◌, ◌≡◌, ◌∙◌, ◌↔◌, ◌⊎◌, ap, sym, subst, length, List, Bool, Vec, Global, false}
use Rattle.std.specs.Prelude.{Contains}
use Rattle.std.proofs.lemmas.Bool.{false≢true}
use Rattle.std.proofs.lemmas.List.{get_or_default}
use Rattle.ux_tfst_locate.specs.declared.lattice.Arc.{Arc}
use Rattle.ux_tfst_locate.specs.declared.lattice.Place.{Place}
use Rattle.ux_tfst_locate.specs.Lattices.{rows_of}
use Rattle.ux_tfst_locate.specs.Reaching.{IsFirst, IsSoAt}
use Rattle.ux_tfst_locate.proofs.ReachingLemmas.{AreReachedTo, IsTarget, Marked, reached_all, reached_more, reached_none, reached_past}
use Rattle.ux_tfst_locate.proofs.reaching.reached.Goals as goal
use Rattle.ux_tfst_locate.proofs.reaching.reached.Goals.{then-index, else-index}

pub loop-at-init : goal.loop-at-init
loop-at-init c =
    let marks = c.in_ok-marks.marks.items in
    reached_none c.args.lattice.now.places.items (rows_of c.args.lattice.now) c.requires.ahead marks
    (c.in_ok-marks.ensures.count ∙ ap (λ (ps : List Place). length ps) c.as_slice.ensures.value)
    (subst (λ (ps : List Place). (j : ℕ) → Marked marks j ↔ IsSoAt IsFirst ps j)
    c.as_slice.ensures.value c.in_ok-marks.ensures.marks)

pub mark_targets-requires : goal.mark_targets-requires
mark_targets-requires c = λ arc has.
    let on = c.requires.ahead c.loop-at.at arc
    (subst (λ (row : List Arc). Contains row arc) c.row.ensures has) in
    let count = c.loop-at.invariant.count in
    omega (arith, on.1, count)

pub loop-at-preserved : goal.loop-at-preserved
loop-at-preserved c =
    let places = c.args.lattice.now.places.items in
    let rows = rows_of c.args.lattice.now in
    let marks = c.loop-at.marks.items in
    let at = c.loop-at.at in
    let inv = c.loop-at.invariant in
    let len : c.len-at-end.result ≡ length places = search rules in
    let marked = inv.count in
    let inside : at < length marks = omega (arith, c.loop-at-test.true, len, marked) in
    let same = get_or_default marks at false c.index.result.now inside in
    elim c.if-index.branch [
      | then-index w ↦
          subst (λ (ms : Vec Bool Global). AreReachedTo places rows ms.items (at + 1)) (sym w.marks-is)
          (reached_more places rows c.requires.ahead marks w.mark_targets.new.marks.items at inv
          (same ∙ (sym c.index.ensures ∙ w.if-index.true)) w.mark_targets.ensures.count
          (subst (λ (row : List Arc). (i : ℕ) → Marked w.mark_targets.new.marks.items i
          ↔ (Marked marks i ⊎ IsTarget row i)) w.row.ensures w.mark_targets.ensures.marked))
      | else-index w ↦
          subst (λ (ms : Vec Bool Global). AreReachedTo places rows ms.items (at + 1)) (sym w.marks-is)
          (reached_past places rows c.requires.ahead marks at inv
          (λ t. false≢true (sym w.if-index.false ∙ (c.index.ensures ∙ (sym same ∙ t)))))
    ]

pub returns-clause-count : goal.returns-clause-count
returns-clause-count c = c.loop-at.invariant.count

pub returns-clause-marks : goal.returns-clause-marks
returns-clause-marks c =
    let len : c.len-at-end.result ≡ length c.args.lattice.now.places.items = search rules in
    reached_all c.args.lattice.now.places.items (rows_of c.args.lattice.now) c.requires.ahead
    c.loop-at.marks.items c.loop-at.at (omega (arith, c.loop-at-test.false, len))
    c.loop-at.invariant
