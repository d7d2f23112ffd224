use Rattle.std.proofs.Common.{arith, ◌∙◌, ℕ, List, [], ap, string_bytes, subst, sym}
use Rattle.std.specs.List.{flat_map}
use Rattle.ux_cmd_morpho.specs.Answering.{line_with_feed}
use Rattle.ux_cmd_morpho.specs.Files.{IsBadIn, IsLineIn}
use Rattle.ux_cmd_morpho.specs.Going.{AreSoFar}
use Rattle.ux_cmd_morpho.proofs.GoingLemmas.{file_of_all, none_bad, so_far_none}
use Rattle.ux_cmd_morpho.proofs.words.lines_by.Goals as goal

pub loop-place-init : goal.loop-place-init
loop-place-init c =
    let files = c.args.files.now in
    subst (λ (l : List (List ℕ)). AreSoFar files.text (IsLineIn files) (IsBadIn files) 0
    c.in_ok-seen.seen.items l) (sym c.new-lines.ensures.items)
    (so_far_none files.text (IsLineIn files) (IsBadIn files) c.in_ok-seen.seen.items
    c.in_ok-seen.ensures)

pub returns-clause-ok : goal.returns-clause-ok
returns-clause-ok c =
    let files = c.args.files.now in
    let len = c.len-place-end.ensures.len in
    let past = c.loop-place-test.false in
    file_of_all files.text (IsLineIn files) (IsBadIn files) c.loop-place.place
    c.loop-place.seen.items c.loop-place.lines.items (omega (arith, len, past))
    c.loop-place.invariant c.sort_once.new.texts.items (string_bytes c.in_ok-file.file)
    c.sort_once.ensures.sorted c.sort_once.ensures.same
    (c.in_ok-file.ensures ∙ ap (flat_map line_with_feed) c.deref.ensures.value)

pub returns-clause-accepted : goal.returns-clause-accepted
returns-clause-accepted c =
    let files = c.args.files.now in
    let len = c.len-place-end.ensures.len in
    let past = c.loop-place-test.false in
    none_bad files.text (IsLineIn files) (IsBadIn files) c.loop-place.place c.loop-place.seen.items
    c.loop-place.lines.items (omega (arith, len, past)) c.loop-place.invariant
