use Rattle.std.proofs.Common.{◌≡◌, ◌∙◌, [], ap, List, ℕ, subst, sym, get_or}
use Rattle.std.proofs.lemmas.List.{get_or_default}
use Rattle.std.proofs.lemmas.Result.{on_ok_weaker}
use Rattle.ux_digraph.specs.Paths.{row_of}
use Rattle.ux_admission.specs.declared.leading.Marks.{Marks}
use Rattle.ux_admission.specs.BadContexts.{IsRuleFrom}
use Rattle.ux_admission.specs.Gains.{Gains}
use Rattle.ux_admission.specs.Leading.{no_marks}
use Rattle.ux_admission.proofs.EndMarksLemmas.{step_rules}
use Rattle.ux_admission.proofs.context_close.push_steps.Goals as goal

pub returns : goal.returns
returns c =
    let sources = c.args.leading.now.sources.items in
    let marks = c.args.leading.now.marks.items in
    let n = c.args.n in
    let row : c.as_slice.result.now ≡ row_of sources n =
    c.as_slice.ensures ∙ (c.index-2.ensures ∙ get_or_default sources n
    c.index-2.result.now [] c.requires.place) in
    let mark : c.index.result.now ≡ get_or marks n no_marks =
    c.index.ensures ∙ get_or_default marks n c.index.result.now no_marks c.requires.mark in
    on_ok_weaker c.push_each.result
    (λ gains. step_rules c.args.leading.now c.args.rules.now.items c.push_each.new.rules.items n
    (ap (λ (m : Marks). m.ordinary) (sym mark) ∙ c.if-not-index.false)
    (subst (λ (r : List ℕ). Gains c.args.rules.now.items c.push_each.new.rules.items
    (IsRuleFrom r n)) row gains)) c.push_each.ensures
