use Rattle.std.proofs.Common.{arith, ◌≡◌, ◌∙◌, [], ap, List, ℕ, subst, sym, get_or}
use Rattle.std.specs.Prelude.{Contains}
use Rattle.std.proofs.lemmas.List.{get_or_default}
use Rattle.std.proofs.lemmas.Result.{on_ok_weaker}
use Rattle.ux_digraph.specs.Paths.{row_of}
use Rattle.ux_admission.specs.declared.leading.Marks.{Marks}
use Rattle.ux_admission.specs.Leading.{no_marks}
use Rattle.ux_net.specs.Words.{ordinary}
use Rattle.ux_admission.proofs.FindingLemmas.{finds_led}
use Rattle.ux_admission.proofs.closers.follow_steps.Goals as goal

pub add_each-requires-clause-inside : goal.add_each-requires-clause-inside
add_each-requires-clause-inside c = λ a h.
    let sources = c.args.leading.now.sources.items in
    let row : c.as_slice.result.now ≡ row_of sources c.args.pair.place =
    c.as_slice.ensures ∙ (c.index-2.ensures ∙ get_or_default sources c.args.pair.place
    c.index-2.result.now [] c.requires.place) in
    let inside = c.requires.inside.source a c.args.pair.place
    (subst (λ (row : List ℕ). Contains row a) row h) in
    let len = c.requires.rows_len in
    omega (arith, inside, len)

pub returns-clause-finds : goal.returns-clause-finds
returns-clause-finds c =
    let sources = c.args.leading.now.sources.items in
    let marks = c.args.leading.now.marks.items in
    let n = c.args.pair.place in
    let len = c.requires.inside.marks_len in
    let place = c.requires.place in
    let row : c.as_slice.result.now ≡ row_of sources n =
    c.as_slice.ensures ∙ (c.index-2.ensures ∙ get_or_default sources n
    c.index-2.result.now [] c.requires.place) in
    let mark : c.index.result.now ≡ get_or marks n no_marks =
    c.index.ensures ∙ get_or_default marks n c.index.result.now no_marks
    (omega (arith, len, place)) in
    on_ok_weaker c.add_each.result
    (λ finds. finds_led c.args.leading.now ordinary c.args.found.now.keys
    c.add_each.new.found.keys c.as_slice.result.now n c.args.pair.closer row
    (ap (λ (m : Marks). m.ordinary) (sym mark) ∙ c.if-not-index.false) finds)
    c.add_each.ensures.finds
