use Rattle.std.proofs.Common.{inl, inr, sym, ◌∙◌}
use Rattle.std.proofs.lemmas.Bool.{false≢true}
use Rattle.ux_masks.specs.Meets.{MeetsAlternative}
use Rattle.ux_masks.proofs.MeetingLemmas.{none_more, none_found, some_texts}
use Rattle.ux_masks.proofs.meeting.meets_some.Goals as goal

pub loop-alternative-preserved : goal.loop-alternative-preserved
loop-alternative-preserved c =
    let item = c.alternative-item.result in
    none_more (MeetsAlternative c.args.entry.now) c.as_slice-alternative-items.result.now
    c.loop-alternative.alternative-index item c.loop-alternative.invariant
    c.loop-alternative-test.true c.alternative-item.is
    (λ h. false≢true (sym c.if-meets_alternative.false ∙ c.meets_alternative.ensures.1 h))

pub returns : goal.returns
returns c = (
  λ t. absurd (false≢true t),
  λ met. absurd (elim met [
    | inl none ↦ some_texts c.as_slice.result.now c.args.alternatives.now c.is_empty.result
        c.as_slice.ensures c.is_empty.ensures c.if-is_empty.false none
    | inr found ↦ none_found (MeetsAlternative c.args.entry.now)
        c.args.alternatives.now c.as_slice-alternative-items.result.now
        c.loop-alternative.alternative-index c.as_slice-alternative-items.ensures
        c.loop-alternative-test.false c.loop-alternative.invariant found
  ]),
)
