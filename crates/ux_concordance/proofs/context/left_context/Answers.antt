use Rattle.std.proofs.Common.{◌∙◌, sym, subst}
use Rattle.std.proofs.lemmas.List.Prefix.{front_rest}
use Rattle.ux_concordance.specs.Contexts.{IsLeftContext}
use Rattle.ux_concordance.proofs.ContextLemmas.{IsWalkedBack-more, IsWalkedBack-none, all-walked-back, walked-back-end, walked-back-on}
use Rattle.ux_concordance.proofs.context.left_context.Goals as goal
use Rattle.ux_concordance.proofs.context.left_context.Goals.{in-Some+then-taken-room, in_default}

pub loop-earlier-init : goal.loop-earlier-init
loop-earlier-init c = record {
  text = c.utf8.before;
  walked = IsWalkedBack-none c.args.columns c.args.before.now;
}

pub loop-earlier-smaller : goal.loop-earlier-smaller
loop-earlier-smaller c = c.in-Some.ensures.shorter

pub loop-earlier-preserved : goal.loop-earlier-preserved
loop-earlier-preserved c = record {
  text = c.in-Some.ensures.whole;
  walked = IsWalkedBack-more c.args.columns c.loop-earlier.room c.args.before.now
      c.loop-earlier.rest.now c.loop-earlier.invariant.walked c.in-Some.last
      c.columns_of-taken.result c.in-Some.earlier.now c.in-Some.ensures.parts
      c.loop-earlier.invariant.text c.in-Some.ensures.whole c.columns_of-taken.ensures
      c.if-taken-room.false;
}

pub range_from-requires : goal.range_from-requires
range_from-requires c some = walked-back-end c.args.columns c.loop-earlier.room c.args.before.now
    c.loop-earlier.rest.now c.loop-earlier.invariant.walked

pub returns-clause-context : goal.returns-clause-context
returns-clause-context c =
    let columns = c.args.columns in
    let before = c.args.before.now in
    let room = c.loop-earlier.room in
    let rest = c.loop-earlier.rest.now in
    let walked = c.loop-earlier.invariant.walked in
    let found : IsLeftContext columns before walked.end =
    elim c.match-split_last.branch [
      | in-Some+then-taken-room w ↦ walked-back-on columns room before rest walked w.in-Some.last
          w.columns_of-taken.result w.in-Some.earlier.now w.in-Some.ensures.parts
          c.loop-earlier.invariant.text w.in-Some.ensures.whole w.columns_of-taken.ensures
          w.if-taken-room.true
      | in_default w ↦ all-walked-back columns room before rest walked w.in_default.ensures.parts
    ] in
    subst (IsLeftContext columns before)
    (sym (c.range_from.ensures.value ∙ front_rest before rest walked.end walked.ends)) found

pub returns-clause-room : goal.returns-clause-room
returns-clause-room c =
    let walked = c.loop-earlier.invariant.walked in
    let end = front_rest c.args.before.now c.loop-earlier.rest.now walked.end walked.ends in
    rw (c.range_from.ensures.value, end) walked.taken
