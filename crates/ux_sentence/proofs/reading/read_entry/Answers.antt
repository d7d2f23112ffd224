use Rattle.std.proofs.Common.{arith, ◌∷◌, [], sym, ◌∙◌}
use Rattle.ux_sentence.proofs.ReadingLemmas.{body_says}
use Rattle.ux_sentence.proofs.EntryLemmas.{other_number, popped, none_left, comment_none, no_comment_told}
use Rattle.ux_sentence.proofs.reading.read_entry.Goals as goal

pub returns-in_default : goal.returns-in_default
returns-in_default c = λ entry is.
    let none = rw c.in_default.is at c.in_ok-entries.ensures in
    none (entry ∷ []) (body_says c.args.body.now entry is)

pub returns-then-len-ne1 : goal.returns-then-len-ne1
returns-then-len-ne1 c = λ entry is.
    let says = rw c.in-Some.is at c.in_ok-entries.ensures in
    let one = other_number c.args.body.now c.in-Some.entries.items entry says is in
    omega (arith, one, c.len.ensures, c.if-len-ne1.true, c.in-Some.entries.ok.0)

pub returns-then-branch : goal.returns-then-branch
returns-then-branch c = λ entry is.
    comment_none c.args.body.now _ entry c.if-branch.true c.in_ok-has_comment.ensures is

pub returns : goal.returns
returns c =
    let says = rw c.in-Some.is at c.in_ok-entries.ensures in
    popped c.args.body.now c.in-Some.entries.items c.pop.new.self.items c.pop.result says
    c.pop.ensures.items
    (omega (arith, c.len.ensures, c.if-len-ne1.false, c.in-Some.entries.ok.0))
    (none_left c.in-Some.entries.items c.pop.new.self.items _
    (sym c.len.ensures ∙ c.if-len-ne1.false) c.pop.ensures.rest)
    (no_comment_told c.args.body.now _ c.if-branch.false c.in_ok-has_comment.ensures)
