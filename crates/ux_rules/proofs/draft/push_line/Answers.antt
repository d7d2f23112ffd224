use Rattle.std.proofs.Common.{◌+◌, ◌≡◌, ◌∙◌, List, length, subst, sym, Some}
use Rattle.ux_grf.specs.declared.graph.GrfBox.{GrfBox}
use Rattle.ux_rules.specs.Words.{mark_of}
use Rattle.ux_rules.proofs.LineLemmas.{IsLinked, mark_line}
use Rattle.ux_rules.proofs.ShapeLemmas.{mark_is, mark_said}
use Rattle.ux_rules.proofs.draft.push_line.Goals as goal

pub returns-in-Some-clause-draft : goal.returns-in-Some-clause-draft
returns-in-Some-clause-draft c =
    (let is : mark_of c.args.line.now ≡ Some c.in-Some.mark =
    sym c.mark_of.ensures ∙ c.in-Some.is in
    mark_line c.args.graph.now c.args.node c.args.line.now c.args.draft.now c.link.new.draft
    c.in-Some.mark c.requires.inside c.requires.line is
    (mark_said c.in-Some.mark (mark_is c.args.line.now c.in-Some.mark is)) c.requires.draft
    (subst (λ (bs : List GrfBox). IsLinked c.args.draft.now c.args.node
    (length bs + c.args.node) c.in-Some.mark c.link.new.draft) c.as_slice-count.ensures
    (record { places = c.in_ok-link.ensures.places; steps = c.in_ok-link.ensures.steps }))).0

pub returns-in-Some-clause-done : goal.returns-in-Some-clause-done
returns-in-Some-clause-done c =
    (let is : mark_of c.args.line.now ≡ Some c.in-Some.mark =
    sym c.mark_of.ensures ∙ c.in-Some.is in
    mark_line c.args.graph.now c.args.node c.args.line.now c.args.draft.now c.link.new.draft
    c.in-Some.mark c.requires.inside c.requires.line is
    (mark_said c.in-Some.mark (mark_is c.args.line.now c.in-Some.mark is)) c.requires.draft
    (subst (λ (bs : List GrfBox). IsLinked c.args.draft.now c.args.node
    (length bs + c.args.node) c.in-Some.mark c.link.new.draft) c.as_slice-count.ensures
    (record { places = c.in_ok-link.ensures.places; steps = c.in_ok-link.ensures.steps }))).1
