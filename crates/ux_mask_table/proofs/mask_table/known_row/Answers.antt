use Rattle.std.proofs.Common.{◌∙◌, ℕ, Option, Some, ap, sym}
use Rattle.ux_mask_table.proofs.MaskTableLemmas.{like_known, token_at}
use Rattle.ux_mask_table.proofs.mask_table.known_row.Goals as goal

pub returns-then-are_same : goal.returns-then-are_same
returns-then-are_same c alphabet tables belongs known numbered alone =
    let tokens = c.args.text.now in
    let row = c.in_ok-row.row in
    let here = token_at tokens row.place c.kind.result c.kind.ensures in
    let there = token_at tokens c.args.place c.kind-then-row-len.result c.kind-then-row-len.ensures in
    like_known alphabet tokens tables belongs c.args.rows.now c.args.token c.in-Some-Some.number
    c.args.place row here.0 there.0
    (known c.args.token c.in-Some-Some.number
    (sym c.first_at.ensures ∙ (c.in-Some-Some.is
    ∙ ap (λ (o : Option ℕ). Some o) c.in-Some-Some.field-0-is))) (sym c.row_at.ensures ∙ c.in_ok-row.was) here.1 there.1
    (sym here.2 ∙ (c.are_same.ensures c.if-are_same.true ∙ there.2)) numbered alone
