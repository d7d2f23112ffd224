use Rattle.std.proofs.Common.{◌≡◌, false, length, sym, ◌∙◌, ap, subst, arith}
use Rattle.ux_dela.specs.Reading.{characters}
use Rattle.ux_dela.proofs.CutLemmas.{is_none, is_some_text}
use Rattle.ux_masks.specs.Pieces.{begun, needs_name}
use Rattle.ux_masks.specs.Reading.{StopsBody, IsBodyText}
use Rattle.ux_masks.proofs.DraftLemmas.{draft_begun, draft_more, draft_whole, cut_behind_sign}
use Rattle.ux_masks.proofs.StuckLemmas.{first_stops, name_stops, rest_stops}
use Rattle.ux_dela.proofs.CutLemmas.{no_text}
use Rattle.ux_masks.proofs.reader.read_body.Goals as goal
use Rattle.ux_masks.proofs.reader.read_body.Goals.{else-is_empty-2-via-then-is_empty-2+else-needs_name as tested, else-is_empty-2-via-else-is_empty-2 as some}

pub returns-then-is_empty-clause-err : goal.returns-then-is_empty-clause-err
returns-then-is_empty-clause-err c =
    let name = c.split_name.result.0.now in
    subst (StopsBody c.args.text.now) (sym c.stop_at.ensures)
    (first_stops c.args.text.now name c.split_name.result.1.now c.split_name.ensures.split
    (is_none c.is_empty.result name c.is_empty.ensures c.if-is_empty.true))

pub loop-sign-init : goal.loop-sign-init
loop-sign-init c =
    let name = c.split_name.result.0.now in (
      c.split_name.ensures.utf8,
      draft_begun c.args.text.now name c.split_name.result.1.now c.in_ok-draft.draft
          c.split_name.ensures.split
          (is_some_text c.is_empty.result name c.is_empty.ensures c.if-is_empty.false)
          (c.in_ok-draft.ensures ∙ ap (begun (characters name)) c.at.ensures),
    )

-- signs are ASCII
pub range_from-requires : goal.range_from-requires
range_from-requires c =
    λ _. cut_behind_sign c.loop-sign.rest.now c.in-Some.sign c.loop-sign.invariant.0
    c.in-Some.ensures.0

pub returns-then-needs_name-clause-err : goal.returns-then-needs_name-clause-err
returns-then-needs_name-clause-err c =
    let name = c.split_name-in-Some.result.0.now in
    subst (StopsBody c.args.text.now) (sym c.stop_at-then-needs_name.ensures)
    (name_stops c.args.text.now c.loop-sign.rest.now name c.split_name-in-Some.result.1.now
    c.range_from.result.now c.loop-sign.last c.in-Some.sign c.loop-sign.draft
    c.loop-sign.invariant.1 c.in-Some.ensures.0 c.in-Some.ensures.1 c.range_from.ensures.value
    c.split_name-in-Some.ensures.split
    (is_none c.is_empty-in-Some.result name c.is_empty-in-Some.ensures c.if-is_empty-2.true)
    (sym c.needs_name.ensures ∙ c.if-needs_name.true))

pub loop-sign-preserved : goal.loop-sign-preserved
loop-sign-preserved c =
    let name = c.split_name-in-Some.result.0.now in
    let free : length name ≡ 0 → needs_name c.in-Some.sign ≡ false =
    λ none. elim c.else-is_empty-2.branch [
      | tested w ↦ sym w.needs_name.ensures ∙ w.if-needs_name.false
      | some w ↦ absurd (
          let there = is_some_text c.is_empty-in-Some.result name c.is_empty-in-Some.ensures w.if-is_empty-2.false in
          omega (arith, none, there))
    ] in (
      c.split_name-in-Some.ensures.utf8,
      draft_more c.args.text.now c.loop-sign.rest.now name c.split_name-in-Some.result.1.now
          c.range_from.result.now c.loop-sign.last c.in-Some.sign c.loop-sign.draft c.put.new.self
          c.loop-sign.invariant.1 c.in-Some.ensures.0 c.in-Some.ensures.1 c.range_from.ensures.value
          c.split_name-in-Some.ensures.split free c.in_ok-put.ensures,
    )

pub returns-then-not-is_empty-clause-err : goal.returns-then-not-is_empty-clause-err
returns-then-not-is_empty-clause-err c =
    let rest = c.loop-sign.rest.now in
    subst (StopsBody c.args.text.now) (sym c.stop_at-then-not-is_empty.ensures)
    (rest_stops c.args.text.now rest c.loop-sign.last c.loop-sign.draft c.loop-sign.invariant.1
    (is_some_text c.is_empty-2.result rest c.is_empty-2.ensures c.if-not-is_empty.true)
    c.in_default.ensures)

pub returns-clause-ok : goal.returns-clause-ok
returns-clause-ok c =
    let rest = c.loop-sign.rest.now in
    let whole = draft_whole c.args.text.now rest c.loop-sign.last c.loop-sign.draft
    c.loop-sign.invariant.1
    (no_text rest (is_none c.is_empty-2.result rest c.is_empty-2.ensures c.if-not-is_empty.false)) in
    subst (IsBodyText c.args.text.now) (sym (c.in_ok-new.ensures ∙ c.into_parts.ensures)) whole
