use Rattle.std.proofs.Common.{arith, ◌<◌, sym, subst, length}
use Rattle.std.proofs.lemmas.List.{get_or_default}
use Rattle.ux_elag.specs.declared.prepared_rule.PreparedRule.{PreparedRule}
use Rattle.ux_elag.specs.Codes.{NotesAgain}
use Rattle.ux_elag.proofs.PreparedLemmas.{noted-all, noted-more, noted-none}
use Rattle.ux_elag.proofs.prepared.note_like.Goals as goal

pub loop-index-init : goal.loop-index-init
loop-index-init c = noted-none (NotesAgain c.args.like) c.args.rules.now

pub note_again-requires : goal.note_again-requires
note_again-requires c =
    let i = c.loop-index.index in
    let rule = c.index-rules-index.result in
    subst (λ (r : PreparedRule). c.args.like < length r.kinds.items)
    (sym (c.loop-index.invariant.behind i rule (omega arith)))
    (c.requires i rule c.loop-index-test.true)

pub loop-index-preserved : goal.loop-index-preserved
loop-index-preserved c =
    let now = c.loop-index.rules in
    let i = c.loop-index.index in
    let rule = c.index-rules-index.result in
    let inside : i < length now = omega arith in
    noted-more (NotesAgain c.args.like) c.args.rules.now now i c.note_again.new.self inside
    c.loop-index.invariant (λ d. subst (λ (r : PreparedRule). NotesAgain c.args.like r
    c.note_again.new.self)
    (get_or_default now i rule d inside) c.in_ok-note_again.ensures)

pub returns : goal.returns
returns c =
    noted-all (NotesAgain c.args.like) c.args.rules.now c.loop-index.rules c.loop-index.index
    (omega arith) (omega arith) c.loop-index.invariant
