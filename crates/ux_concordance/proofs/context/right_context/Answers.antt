use Rattle.std.proofs.Common.{◌∙◌, sym, subst}
use Rattle.ux_concordance.specs.Contexts.{IsRightContext}
use Rattle.ux_concordance.proofs.ContextLemmas.{IsWalked-more, IsWalked-none, all-walked, walked-end, walked-on}
use Rattle.ux_concordance.proofs.SplitLemmas.{slice-front}
use Rattle.ux_concordance.proofs.context.right_context.Goals as goal
use Rattle.ux_concordance.proofs.context.right_context.Goals.{in-Some+then-taken-room, in_default}

pub loop-first-init : goal.loop-first-init
loop-first-init c = record {
  text = c.utf8.behind;
  walked = IsWalked-none c.args.columns c.args.behind.now;
}

pub loop-first-smaller : goal.loop-first-smaller
loop-first-smaller c = c.in-Some.ensures.shorter

pub loop-first-preserved : goal.loop-first-preserved
loop-first-preserved c = record {
  text = c.in-Some.ensures.whole;
  walked = IsWalked-more c.args.columns c.loop-first.room c.args.behind.now c.loop-first.rest.now
      c.loop-first.invariant.walked c.in-Some.first c.columns_of-taken.result c.in-Some.later.now
      c.in-Some.ensures.parts c.loop-first.invariant.text c.in-Some.ensures.whole
      c.columns_of-taken.ensures c.if-taken-room.false;
}

pub range-requires-clause-end_boundary : goal.range-requires-clause-end_boundary
range-requires-clause-end_boundary c =
    walked-end c.args.columns c.loop-first.room c.args.behind.now c.loop-first.rest.now
    c.loop-first.invariant.walked c.loop-first.invariant.text

pub returns : goal.returns
returns c =
    let columns = c.args.columns in
    let behind = c.args.behind.now in
    let room = c.loop-first.room in
    let rest = c.loop-first.rest.now in
    let walked = c.loop-first.invariant.walked in
    let found : IsRightContext columns behind walked.front =
    elim c.match-split_first.branch [
      | in-Some+then-taken-room w ↦ walked-on columns room behind rest walked w.in-Some.first
          w.columns_of-taken.result w.in-Some.later.now w.in-Some.ensures.parts
          c.loop-first.invariant.text w.in-Some.ensures.whole w.columns_of-taken.ensures
          w.if-taken-room.true
      | in_default w ↦ all-walked columns room behind rest walked w.in_default.ensures.parts
    ] in
    subst (IsRightContext columns behind)
    (sym (c.range.ensures.value ∙ slice-front behind walked.front rest walked.begins)) found
