use Rattle.std.proofs.Common.{arith, ◌⊎◌, ◌≡◌, ◌∙◌, [], List, ℕ, subst, length}
use Rattle.std.proofs.lemmas.List.{get_or_default}
use Rattle.ux_digraph.specs.Paths.{row_of}
use Rattle.ux_admission.specs.BadContexts.{IsStepRule, IsJumpRule}
use Rattle.ux_admission.specs.Gains.{Gains}
use Rattle.ux_admission.proofs.EndMarksLemmas.{next_rules}
use Rattle.ux_admission.proofs.GainsLemmas.{gains_then, gains_next, gains_done}
use Rattle.ux_admission.proofs.context_close.push_rules.Goals as goal

pub loop-n-preserved : goal.loop-n-preserved
loop-n-preserved c =
    let leading = c.args.leading.now in
    let rows = c.args.rows.now in
    let n = c.loop-n.n in
    let len = c.requires.rows.len in
    let test = c.loop-n-test.true in
    let row : c.as_slice.result.now ≡ row_of rows n =
    c.as_slice.ensures ∙ (c.index-rows-n.is ∙ get_or_default rows n c.index-rows-n.result []
    (omega (arith, len, test))) in
    gains_next c.args.rules.now.items c.loop-n.rules.items c.push_jumps.new.rules.items n
    (λ m r. IsStepRule leading m r ⊎ IsJumpRule leading (row_of rows m) m r) c.loop-n.invariant
    (gains_then c.loop-n.rules.items c.push_steps.new.rules.items c.push_jumps.new.rules.items
    (IsStepRule leading n) (IsJumpRule leading (row_of rows n) n) c.in_ok-push_steps.ensures
    (subst (λ (r : List ℕ). Gains c.push_steps.new.rules.items c.push_jumps.new.rules.items
    (IsJumpRule leading r n)) row c.in_ok-push_jumps.ensures))

pub returns : goal.returns
returns c =
    let leading = c.args.leading.now in
    let rows = c.args.rows.now in
    next_rules leading rows c.requires.rows c.args.rules.now.items c.loop-n.rules.items
    (gains_done c.args.rules.now.items c.loop-n.rules.items c.loop-n.n
    (length leading.sources.items)
    (λ m r. IsStepRule leading m r ⊎ IsJumpRule leading (row_of rows m) m r)
    (omega arith) (omega arith) c.loop-n.invariant)
