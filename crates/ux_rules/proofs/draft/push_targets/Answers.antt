use Rattle.std.proofs.Common.{◌≡◌, ◌<◌, ◌+◌, ℕ, List, ap, get_or, length, subst}
use Rattle.ux_grf.specs.declared.graph.GrfBox.{GrfBox}
use Rattle.ux_rules.specs.declared.step.Sign.TheVariants.{Free}
use Rattle.ux_rules.specs.Words.{targets_of}
use Rattle.ux_rules.proofs.BoxLemmas.{targets_next}
use Rattle.ux_rules.proofs.LineLemmas.{IsLinked}
use Rattle.ux_rules.proofs.draft.push_targets.Goals as goal

pub loop-target-preserved : goal.loop-target-preserved
loop-target-preserved c =
    let targets = targets_of c.args.graph.now c.args.node in
    let same : c.targets_at-target-items.result.now ≡ targets = c.targets_at-target-items.ensures in
    let target = get_or c.targets_at-target-items.result.now c.loop-target.target-index 0 in
    targets_next c.args.graph.now c.args.node c.args.draft.now c.loop-target.draft
    c.link.new.draft c.loop-target.target-index target c.requires.formed c.requires.inside
    (subst (λ (ts : List ℕ). c.loop-target.target-index < length ts) same c.loop-target-test.true)
    (ap (λ (ts : List ℕ). get_or ts c.loop-target.target-index 0) same)
    c.loop-target.invariant
    (subst (λ (bs : List GrfBox). IsLinked c.loop-target.draft (length bs + c.args.node) target
    Free c.link.new.draft) c.as_slice-count.ensures
    (record { places = c.in_ok-link.ensures.places; steps = c.in_ok-link.ensures.steps }))
