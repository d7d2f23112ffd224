use Rattle.std.proofs.Common.{ℕ, Bool, List, subst}
use Rattle.std.proofs.lemmas.Result.{err_from_is_err_and}
use Rattle.ux_cmd_morpho.specs.Answering.{IsWordAt}
use Rattle.ux_cmd_morpho.specs.Files.{IsBadIn, IsLineIn}
use Rattle.ux_cmd_morpho.specs.Going.{IsSeen}
use Rattle.ux_cmd_morpho.proofs.GoingLemmas.{first_bad, so_far_added, so_far_passed}
use Rattle.ux_cmd_morpho.proofs.words.go_on.Goals as goal

pub returns-then-not-is_next-clause-so_far : goal.returns-then-not-is_next-clause-so_far
returns-then-not-is_next-clause-so_far c =
    let files = c.args.files.now in
    so_far_passed files.text (IsLineIn files) (IsBadIn files) c.args.place c.args.seen.now.items
    c.args.lines.now.items c.requires.so_far
    (subst (λ (s : List Bool). (word : List ℕ) → IsWordAt files.text c.args.place word →
    IsSeen files.text s word) c.deref.ensures.value (c.is_next.ensures.passed c.if-not-is_next.true))

pub returns-in_err-add_lines-clause-err : goal.returns-in_err-add_lines-clause-err
returns-in_err-add_lines-clause-err c =
    let p = err_from_is_err_and c.from_residual.result c.from_residual.ensures.1 in
    let files = c.args.files.now in
    rw (p.1, p.2) (first_bad files.text (IsLineIn files) (IsBadIn files) c.args.place
    c.args.seen.now.items c.args.lines.now.items c.requires.so_far c.args.graph.now
    c.in_err-add_lines.field-0.0 c.in_err-add_lines.ensures.err)

pub returns-clause-so_far : goal.returns-clause-so_far
returns-clause-so_far c =
    let files = c.args.files.now in
    let word = c.is_next.ensures.word c.if-not-is_next.false in
    so_far_added files.text (IsLineIn files) (IsBadIn files) c.args.place c.args.seen.now.items
    c.args.lines.now.items c.requires.so_far word.0 c.see.new.seen.items c.add_lines.new.lines.items
    word.1 (c.in_ok-add_lines.ensures.lines word.0 word.1)
    (c.in_ok-add_lines.ensures.good word.0 word.1) c.see.ensures
