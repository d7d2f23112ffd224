use Rattle.std.proofs.Common.{◌<◌, [], arith, get_or, length, refl, sym, ◌∙◌}
use Rattle.std.proofs.lemmas.Bool.{false≢true}
use Rattle.std.proofs.lemmas.List.{get_or_default}
use Rattle.ux_masks.specs.Meets.{HasCharacters}
use Rattle.ux_masks.proofs.MeetingLemmas.{found_at, none_more, none_found, same_characters}
use Rattle.ux_masks.proofs.meeting.meets_alternative.Goals as goal

pub returns-then-has_characters : goal.returns-then-has_characters
returns-then-has_characters c =
    let alternative = c.args.alternative.now in
    let codes = c.args.entry.now.infl in
    let number = c.loop-number.number in
    let code = get_or codes number [] in
    let below : number < length codes =
    omega (arith, c.loop-number-test.true, c.len-number-end.ensures) in (
      λ _. found_at (λ x. HasCharacters x alternative) codes codes number code refl below
          (get_or_default codes number [] code below)
          (same_characters c.text.result.now code c.as_str.result.now alternative c.text.ensures
          c.as_str.ensures (c.has_characters.ensures.0 c.if-has_characters.true)),
      λ _. refl,
    )

pub loop-number-preserved : goal.loop-number-preserved
loop-number-preserved c =
    let alternative = c.args.alternative.now in
    let codes = c.args.entry.now.infl in
    let number = c.loop-number.number in
    let code = get_or codes number [] in
    let below : number < length codes =
    omega (arith, c.loop-number-test.true, c.len-number-end.ensures) in
    none_more (λ x. HasCharacters x alternative) codes number code c.loop-number.invariant below
    (get_or_default codes number [] code below)
    (λ h. false≢true (sym c.if-has_characters.false ∙ c.has_characters.ensures.1
    (same_characters code c.text.result.now alternative c.as_str.result.now (sym c.text.ensures)
    (sym c.as_str.ensures) h)))

pub returns : goal.returns
returns c = (
  λ t. absurd (false≢true t),
  λ found. absurd (none_found (λ x. HasCharacters x c.args.alternative.now) c.args.entry.now.infl
      c.args.entry.now.infl c.loop-number.number refl
      (omega (arith, c.loop-number-test.false, c.len-number-end.ensures)) c.loop-number.invariant
      found),
)
