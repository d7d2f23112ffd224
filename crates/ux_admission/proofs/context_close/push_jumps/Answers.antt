use Rattle.std.proofs.Common.{arith, ◌≡◌, ◌∙◌, [], List, ℕ, subst, get_or, length, true}
use Rattle.std.proofs.lemmas.List.{get_or_default}
use Rattle.ux_digraph.specs.Paths.{row_of}
use Rattle.ux_admission.specs.declared.leading.Marks.{Marks}
use Rattle.ux_admission.specs.BadContexts.{IsRuleFrom}
use Rattle.ux_admission.specs.Gains.{Gains}
use Rattle.ux_admission.specs.Leading.{no_marks, is_noted}
use Rattle.ux_net.specs.Words.{Sign, opens}
use Rattle.ux_admission.proofs.EndMarksLemmas.{jump_rules}
use Rattle.ux_admission.proofs.GainsLemmas.{gains_next, gains_done}
use Rattle.ux_admission.proofs.WaysExact.{gains_elements}
use Rattle.ux_admission.proofs.context_close.push_jumps.Goals as goal

pub loop-closer-preserved : goal.loop-closer-preserved
loop-closer-preserved c =
    let sources = c.args.leading.now.sources.items in
    let n = c.args.n in
    let k = c.loop-closer.closer-index in
    let closer = get_or c.args.closers.now k 0 in
    let row : c.as_slice.result.now ≡ row_of sources n =
    c.as_slice.ensures ∙ (c.index-in-loop-closer.ensures ∙ get_or_default sources n
    c.index-in-loop-closer.result.now [] c.requires.place) in
    gains_next c.args.rules.now.items c.loop-closer.rules.items c.push_each.new.rules.items k
    (λ j. IsRuleFrom (row_of sources n) (get_or c.args.closers.now j 0))
    c.loop-closer.invariant
    (subst (λ (r : List ℕ). Gains c.loop-closer.rules.items c.push_each.new.rules.items
    (IsRuleFrom r closer)) row c.in_ok-push_each.ensures)

pub returns : goal.returns
returns c =
    let sources = c.args.leading.now.sources.items in
    let marks = c.args.leading.now.marks.items in
    let closers = c.args.closers.now in
    let n = c.args.n in
    let mark : c.index.result.now ≡ get_or marks n no_marks =
    c.index.ensures ∙ get_or_default marks n c.index.result.now no_marks c.requires.mark in
    let noted = subst (λ (m : Marks). (sign : Sign) × (is_noted (opens sign) m ≡ true)) mark
    (c.is_opening.ensures.0 c.if-not-is_opening.false) in
    jump_rules c.args.leading.now c.args.rules.now.items c.loop-closer.rules.items closers n noted
    (gains_elements c.args.rules.now.items c.loop-closer.rules.items closers 0
    (IsRuleFrom (row_of sources n))
    (gains_done c.args.rules.now.items c.loop-closer.rules.items c.loop-closer.closer-index
    (length closers) (λ j. IsRuleFrom (row_of sources n) (get_or closers j 0))
    (omega arith) (omega arith) c.loop-closer.invariant))
