use Rattle.std.proofs.Common.{sym, length, ◌≢◌, eq-eqb}
use Rattle.std.proofs.lemmas.Bool.{eqb-true, both_ways}
use Rattle.ux_fst2_file.proofs.FieldLemmas.{no-field, next-field}
use Rattle.ux_fst2_file.proofs.fields.next_field.Goals as goal

pub returns-then-is_empty : goal.returns-then-is_empty
returns-then-is_empty c =
    no-field c.args.text.now c.skip_spaces-text.result.now c.skip_spaces-text.ensures
    (eqb-true (length c.skip_spaces-text.result.now) 0 (sym c.if-is_empty.ensures))

pub returns : goal.returns
returns c =
    let skipped = c.skip_spaces-text.result.now in
    let some : length skipped ≢ 0 =
    λ e. both_ways _ (sym c.if-is_empty.ensures) (eq-eqb (length skipped) 0 e) in
    next-field c.args.text.now skipped c.split_field.result.0.now c.split_field.result.1.now
    c.skip_spaces-text.ensures some c.split_field.ensures.field c.split_field.ensures.rest
