use Rattle.std.proofs.Common.{arith, ◌^◌, ◌<◌, sym, subst, length}
use Rattle.std.proofs.lemmas.List.{get_or_default}
use Rattle.ux_elag.specs.declared.prepared_rule.PreparedRule.{PreparedRule}
use Rattle.ux_elag.specs.Prepared.{Notes}
use Rattle.ux_elag.proofs.PreparedLemmas.{noted-all, noted-more, noted-none}
use Rattle.ux_elag.proofs.prepared.note_reading.Goals as goal

pub loop-index-init : goal.loop-index-init
loop-index-init c = noted-none (Notes c.args.reading.now) c.args.rules.now

pub note-requires : goal.note-requires
note-requires c =
    let i = c.loop-index.index in
    let rule = c.index-rules-index.result in
    subst (λ (r : PreparedRule). length r.rule.steps < 2 ^ 32)
    (sym (c.loop-index.invariant.behind i rule (omega arith)))
    (c.requires i rule c.loop-index-test.true)

pub loop-index-preserved : goal.loop-index-preserved
loop-index-preserved c =
    let now = c.loop-index.rules in
    let i = c.loop-index.index in
    let rule = c.index-rules-index.result in
    let inside : i < length now = omega arith in
    noted-more (Notes c.args.reading.now) c.args.rules.now now i c.note.new.self inside
    c.loop-index.invariant (λ d. subst (λ (r : PreparedRule). Notes c.args.reading.now r
    c.note.new.self)
    (get_or_default now i rule d inside) c.in_ok-note.ensures)

pub returns : goal.returns
returns c =
    noted-all (Notes c.args.reading.now) c.args.rules.now c.loop-index.rules c.loop-index.index
    (omega arith) (omega arith) c.loop-index.invariant
