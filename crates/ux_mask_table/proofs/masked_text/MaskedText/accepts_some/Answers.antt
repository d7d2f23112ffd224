use Rattle.std.proofs.Common.{arith}
use Rattle.ux_lexical_tables.proofs.OneTokenLaws.{accepts_forward}
use Rattle.ux_mask_table.specs.MaskedTexts.{accepts_in}
use Rattle.ux_mask_table.proofs.MaskedTextLemmas.{some_test}
use Rattle.ux_mask_table.proofs.masked_text.MaskedText.accepts_some.Goals as goal

pub returns-then-len-place : goal.returns-then-len-place
returns-then-len-place c = (
  λ t. cc,
  λ some.
      let self = c.args.self.now in
      let ahead = accepts_forward self.alphabet.now self.text.now self.applied.now
      c.requires.table.belongs c.args.mask.now c.args.place some.0 some.1 in
      let len = c.len.ensures.len in
      let test = c.if-len-place.true in
      absurd (omega (arith, ahead.0, ahead.1, len, test)),
)

pub returns : goal.returns
returns c =
    let self = c.args.self.now in
    let ahead = accepts_forward self.alphabet.now self.text.now self.applied.now
    c.requires.table.belongs c.args.mask.now c.args.place in
    some_test (accepts_in self c.args.mask.now) c.args.place (λ k accepts. (ahead k accepts).0)
    c.told.result.from c.told.result.ends.now c.told.ensures c.is_empty.result c.is_empty.ensures
