use Rattle.std.proofs.Common.{arith, ◌≡◌, ℕ, ◌++◌, ◌∙◌, List, ap, get_or, map, take}
use Rattle.std.proofs.lemmas.List.{take_all}
use Rattle.ux_lexical_tables.proofs.OneTokenLaws.{accepts_forward}
use Rattle.ux_mask_table.specs.MaskedTexts.{accepts_in}
use Rattle.ux_mask_table.proofs.MaskedTextLemmas.{adds_none, moved, moved_all, told_at}
use Rattle.ux_mask_table.proofs.masked_text.MaskedText.add_mask_ends.Goals as goal

pub returns-then-len-place : goal.returns-then-len-place
returns-then-len-place c =
    let self = c.args.self.now in
    let ahead = accepts_forward self.alphabet.now self.text.now self.applied.now
    c.requires.table.belongs c.args.mask.now in
    let len = c.len.ensures.len in
    let test = c.if-len-place.true in
    adds_none (accepts_in self c.args.mask.now) c.args.place
    (λ k accepts. (ahead c.args.place k accepts).0)
    (λ k accepts. let a = ahead c.args.place k accepts in omega (arith, a.0, a.1, len, test))
    c.args.ends.now.items

pub overflow_sub-end : goal.overflow_sub-end
overflow_sub-end c =
    let self = c.args.self.now in
    let ahead = accepts_forward self.alphabet.now self.text.now self.applied.now
    c.requires.table.belongs c.args.mask.now c.args.place in
    let at = told_at (accepts_in self c.args.mask.now) c.args.place (λ k accepts. (ahead k accepts).0)
    c.told-told.result.from c.told-told.result.ends.now c.told-told.ensures c.loop-end.end-index
    c.loop-end-test.true in
    let behind = at.0 in
    omega (arith, behind)

pub overflow_add-place : goal.overflow_add-place
overflow_add-place c =
    let self = c.args.self.now in
    let ahead = accepts_forward self.alphabet.now self.text.now self.applied.now
    c.requires.table.belongs c.args.mask.now c.args.place in
    let at = told_at (accepts_in self c.args.mask.now) c.args.place (λ k accepts. (ahead k accepts).0)
    c.told-told.result.from c.told-told.result.ends.now c.told-told.ensures c.loop-end.end-index
    c.loop-end-test.true in
    let within = (ahead (moved c.args.place c.told-told.result.from
    (get_or c.told-told.result.ends.now c.loop-end.end-index 0)) at.1).1 in
    let len = c.len.ensures.len in
    let few = c.len.ensures.few in
    omega (arith, within, len, few)

pub returns : goal.returns
returns c =
    let self = c.args.self.now in
    let ahead = accepts_forward self.alphabet.now self.text.now self.applied.now
    c.requires.table.belongs c.args.mask.now c.args.place in
    let from = c.told-told.result.from in
    let ends = c.told-told.result.ends.now in
    let all : take c.loop-end.end-index ends ≡ ends =
    take_all c.loop-end.end-index ends (omega (arith, c.loop-end-test.false)) in
    moved_all (accepts_in self c.args.mask.now) c.args.place (λ k accepts. (ahead k accepts).0) from ends
    c.told-told.ensures c.args.ends.now.items c.loop-end.ends.items
    (c.loop-end.invariant ∙ ap (λ (l : List ℕ). c.args.ends.now.items ++ map (moved c.args.place from) l)
    all)
