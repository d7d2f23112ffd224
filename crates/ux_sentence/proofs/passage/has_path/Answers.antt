use Rattle.std.proofs.Common.{ℕ, List, subst}
use Rattle.std.specs.Prelude.{Contains}
use Rattle.ux_sentence.proofs.PassageLemmas.{has_where_known}
use Rattle.ux_sentence.proofs.passage.has_path.Goals as goal

pub leading_to-requires-clause-up : goal.leading_to-requires-clause-up
leading_to-requires-clause-up c = λ step h.
    (c.in_ok-steps.ensures.steps.each step
    (subst (λ (ls : List (ℕ × ℕ)). Contains ls step) c.as_slice-2.ensures.value h)).0

pub returns : goal.returns
returns c =
    has_where_known c.has.result c.args.sentence.now c.as_slice.result.now
    c.as_slice-2.result.now c.in_ok-steps.steps.items c.in_ok-states.states.keys
    c.if-sentence-eq0.false c.as_slice.ensures c.as_slice-2.ensures.value
    c.in_ok-steps.ensures.steps c.in_ok-states.ensures c.has.ensures
