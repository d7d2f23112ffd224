use Rattle.std.proofs.Common.{arith, ◌≡◌, ◌∙◌, [], List, ℕ, subst, get_or}
use Rattle.std.specs.Prelude.{Contains}
use Rattle.std.proofs.lemmas.List.{get_or_default}
use Rattle.std.proofs.lemmas.Result.{on_ok_weaker}
use Rattle.ux_digraph.specs.Paths.{row_of}
use Rattle.ux_admission.specs.declared.leading.Marks.{Marks}
use Rattle.ux_admission.specs.Leading.{no_marks, is_noted}
use Rattle.ux_net.specs.Words.{Sign, opens}
use Rattle.std.proofs.Common.{true}
use Rattle.ux_admission.proofs.FindingLemmas.{finds_opened, jumps_opened}
use Rattle.ux_admission.proofs.closers.open_contexts.Goals as goal

pub jump-requires-clause-inside : goal.jump-requires-clause-inside
jump-requires-clause-inside c = λ a h.
    let sources = c.args.leading.now.sources.items in
    let row : c.as_slice-sources.result.now ≡ row_of sources c.args.pair.place =
    c.as_slice-sources.ensures ∙ (c.index-2.ensures ∙ get_or_default sources c.args.pair.place
    c.index-2.result.now [] c.requires.place) in
    let inside = c.requires.inside.source a c.args.pair.place
    (subst (λ (row : List ℕ). Contains row a) row h) in
    let len = c.requires.rows_len in
    omega (arith, inside, len)

pub returns-clause-finds : goal.returns-clause-finds
returns-clause-finds c =
    let sources = c.args.leading.now.sources.items in
    let marks = c.args.leading.now.marks.items in
    let n = c.args.pair.place in
    let len = c.requires.inside.marks_len in
    let place = c.requires.place in
    let row : c.as_slice-sources.result.now ≡ row_of sources n =
    c.as_slice-sources.ensures ∙ (c.index-2.ensures ∙ get_or_default sources n
    c.index-2.result.now [] c.requires.place) in
    let mark : c.index.result.now ≡ get_or marks n no_marks =
    c.index.ensures ∙ get_or_default marks n c.index.result.now no_marks
    (omega (arith, len, place)) in
    let noted = subst (λ (m : Marks). (sign : Sign) × (is_noted (opens sign) m ≡ true)) mark
    (c.is_opening.ensures.0 c.if-not-is_opening.false) in
    on_ok_weaker c.jump.result
    (λ finds. finds_opened c.args.leading.now c.args.found.now.keys c.jump.new.found.keys
    c.as_slice-sources.result.now n c.args.pair.closer row noted finds) c.jump.ensures.finds

pub returns-clause-jumps : goal.returns-clause-jumps
returns-clause-jumps c =
    let sources = c.args.leading.now.sources.items in
    let marks = c.args.leading.now.marks.items in
    let n = c.args.pair.place in
    let len = c.requires.inside.marks_len in
    let place = c.requires.place in
    let row : c.as_slice-sources.result.now ≡ row_of sources n =
    c.as_slice-sources.ensures ∙ (c.index-2.ensures ∙ get_or_default sources n
    c.index-2.result.now [] c.requires.place) in
    let mark : c.index.result.now ≡ get_or marks n no_marks =
    c.index.ensures ∙ get_or_default marks n c.index.result.now no_marks
    (omega (arith, len, place)) in
    let noted = subst (λ (m : Marks). (sign : Sign) × (is_noted (opens sign) m ≡ true)) mark
    (c.is_opening.ensures.0 c.if-not-is_opening.false) in
    on_ok_weaker c.jump.result
    (λ finds. jumps_opened c.args.leading.now c.args.jumps.now.items c.note_jumps.new.jumps.items
    c.as_slice-sources.result.now n c.args.pair.closer row noted
    c.in_ok-note_jumps.ensures.jumps) c.jump.ensures.finds
