use Rattle.std.proofs.Common.{arith, ◌≡◌, ◌<◌, ◌≤◌, ℕ, List, get_or, length, subst, sym}
use Rattle.ux_grf.specs.declared.graph.GrfBox.{GrfBox}
use Rattle.ux_grf.specs.declared.item.Item.{Item}
use Rattle.ux_grf.specs.WellFormed.{box_of_graph}
use Rattle.ux_rules.specs.declared.step.Sign.TheVariants.{Free}
use Rattle.ux_rules.specs.Drafts.{AreLinesDone, IsLineDone}
use Rattle.ux_rules.proofs.BoxLemmas.{lines_next, lines_end, start_lines}
use Rattle.ux_rules.proofs.LineLemmas.{IsLinked}
use Rattle.ux_rules.proofs.draft.push_lines.Goals as goal

pub returns-then-node-eq0-clause-draft : goal.returns-then-node-eq0-clause-draft
returns-then-node-eq0-clause-draft c =
    let two = c.requires.formed.two in
    (start_lines c.args.graph.now c.args.draft.now c.link.new.draft (omega (arith, two))
    c.requires.draft
    (subst (λ (bs : List GrfBox). IsLinked c.args.draft.now 0 (length bs) Free c.link.new.draft)
    c.as_slice.ensures
    (record { places = c.in_ok-link.ensures.places; steps = c.in_ok-link.ensures.steps }))).0

pub returns-then-node-eq0-clause-done : goal.returns-then-node-eq0-clause-done
returns-then-node-eq0-clause-done c =
    let two = c.requires.formed.two in
    subst (λ (n : ℕ). AreLinesDone c.args.graph.now n c.args.draft.now c.link.new.draft)
    (sym c.if-node-eq0.true)
    (start_lines c.args.graph.now c.args.draft.now c.link.new.draft (omega (arith, two))
    c.requires.draft
    (subst (λ (bs : List GrfBox). IsLinked c.args.draft.now 0 (length bs) Free c.link.new.draft)
    c.as_slice.ensures
    (record { places = c.in_ok-link.ensures.places; steps = c.in_ok-link.ensures.steps }))).1

pub loop-line-preserved : goal.loop-line-preserved
loop-line-preserved c =
    let lines = (box_of_graph c.args.graph.now c.args.node).lines in
    let same : c.lines_at-line-items.result.now ≡ lines = c.lines_at-line-items.ensures in
    lines_next c.args.graph.now c.args.node c.args.draft.now c.loop-line.draft
    c.push_line.new.draft lines c.loop-line.line-index c.line-item.result
    (subst (λ (ls : List (List Item)). c.loop-line.line-index < length ls) same
    c.loop-line-test.true)
    (subst (λ (ls : List (List Item)).
    c.line-item.result ≡ get_or ls c.loop-line.line-index c.line-item.result) same c.line-item.is)
    c.loop-line.invariant c.in_ok-push_line.ensures.draft
    (subst (λ (line : List Item). IsLineDone c.args.graph.now c.args.node line c.loop-line.draft
    c.push_line.new.draft) c.as_slice-in-loop-line.ensures c.in_ok-push_line.ensures.done)

pub returns-clause-done : goal.returns-clause-done
returns-clause-done c =
    (lines_end c.args.graph.now c.args.node c.args.draft.now c.loop-line.draft
    c.loop-line.line-index c.if-node-eq0.false
    (subst (λ (ls : List (List Item)). length ls ≤ c.loop-line.line-index)
    c.lines_at-line-items.ensures c.loop-line-test.false) c.loop-line.invariant).1
