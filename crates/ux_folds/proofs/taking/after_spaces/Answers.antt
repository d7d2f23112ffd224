use Rattle.std.proofs.Common.{◌∙◌, sym}
use Rattle.ux_tokens.proofs.PrintingLemmas.{there}
use Rattle.ux_outputs.proofs.TakingLemmas.{past_spaces-other, past_spaces-space}
use Rattle.ux_folds.proofs.taking.after_spaces.Goals as goal

pub returns-then-not-is_space_at : goal.returns-then-not-is_space_at
returns-then-not-is_space_at c =
    let token = there _ _ c.is_space_at.ensures in
    sym (c.loop-position.invariant
    ∙ past_spaces-other c.args.text.now c.loop-position.position c.args.to token.0 token.1
    c.loop-position-test.true (sym token.2 ∙ (cc)))

pub loop-position-preserved : goal.loop-position-preserved
loop-position-preserved c =
    let token = there _ _ c.is_space_at.ensures in
    c.loop-position.invariant
    ∙ past_spaces-space c.args.text.now c.loop-position.position c.args.to token.0 token.1
    c.loop-position-test.true (sym token.2 ∙ (cc))
