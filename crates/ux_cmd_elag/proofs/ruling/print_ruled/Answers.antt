use Rattle.std.proofs.Common.{arith, ◌≡◌, ◌∙◌, get_or, length, refl, sym, subst, string_bytes}
use Rattle.std.proofs.lemmas.Slice.Zip.{AllZip-long}
use Rattle.ux_elag.specs.Prepared.{Prepared}
use Rattle.ux_reading_table.specs.declared.numbered.NumberedSentence.{NumberedSentence}
use Rattle.ux_cmd_elag.specs.Ruling.{PrintsLeft, Stands}
use Rattle.ux_cmd_elag.proofs.RulingLemmas.{none_at, ruled_all, ruled_more, ruled_none, stands_at}
use Rattle.ux_cmd_elag.proofs.ruling.print_ruled.Goals as goal

-- nothing is written but the head line
pub loop-sentence-init : goal.loop-sentence-init
loop-sentence-init c = record {
  same = refl;
  ruled = λ old stand. ruled_none c.args.rules.now.rules (length c.args.sentences.now)
      (string_bytes c.in_ok-answer.answer) c.in_ok-answer.ensures;
}

pub print_left-requires : goal.print_left-requires
print_left-requires c =
    let place = c.loop-sentence.sentence-index in
    let (old, stand) = c.requires in
    let here = stands_at c.args.rules.now.texts c.args.sentences.now old place
    c.sentence-item.result none_at stand c.loop-sentence-test.true in (
      get_or old place none_at,
      subst (λ (p : Prepared). Stands p.texts c.sentence-item.result (get_or old place none_at))
          (sym c.loop-sentence.invariant.same)
          (subst (λ (s : NumberedSentence). Stands c.args.rules.now.texts s
          (get_or old place none_at)) (sym c.sentence-item.is) here.1),
    )

-- one more sentence is ruled and written
pub loop-sentence-preserved : goal.loop-sentence-preserved
loop-sentence-preserved c =
    let place = c.loop-sentence.sentence-index in
    let l = c.loop-sentence in
    record {
      same = c.in_ok-print_left.ensures.same ∙ l.invariant.same;
      ruled = λ old stand.
          let here = stands_at c.args.rules.now.texts c.args.sentences.now old place
          c.sentence-item.result none_at stand c.loop-sentence-test.true in
          let stands : Stands l.rules.texts c.sentence-item.result (get_or old place none_at) =
          subst (λ (p : Prepared). Stands p.texts c.sentence-item.result (get_or old place none_at))
          (sym l.invariant.same)
          (subst (λ (s : NumberedSentence). Stands c.args.rules.now.texts s
          (get_or old place none_at)) (sym c.sentence-item.is) here.1) in
          ruled_more c.args.rules.now.rules (length c.args.sentences.now) old place none_at
          (string_bytes l.answer) (string_bytes c.print_left.new.answer) here.0
          (l.invariant.ruled old stand)
          (subst (λ (p : Prepared). PrintsLeft p.rules (get_or old place none_at)
          (string_bytes l.answer) (string_bytes c.print_left.new.answer)) l.invariant.same
          (c.in_ok-print_left.ensures.printed (get_or old place none_at) stands));
    }

-- all are ruled
pub returns : goal.returns
returns c = λ old stand.
    let same : length old ≡ length c.args.sentences.now =
    AllZip-long (Stands c.args.rules.now.texts) c.args.sentences.now old stand in
    ruled_all c.args.rules.now.rules (length c.args.sentences.now) old
    c.loop-sentence.sentence-index (string_bytes c.loop-sentence.answer) (sym same)
    (omega (arith, same, c.loop-sentence-test.false)) (c.loop-sentence.invariant.ruled old stand)
