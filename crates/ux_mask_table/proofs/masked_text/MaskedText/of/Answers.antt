use Rattle.std.proofs.Common.{◌+◌, ◌*◌, ◌≤◌, length, subst}
use Rattle.ux_net.specs.Masks.{masks_in}
use Rattle.ux_mask_table.proofs.MaskTableLemmas.{one_count}
use Rattle.ux_mask_table.proofs.masked_text.MaskedText.of.Goals as goal

pub returns-in_err-masks-clause-steps : goal.returns-in_err-masks-clause-steps
returns-in_err-masks-clause-steps g c = λ count is.
    subst (λ n. c.fill.new.steps ≤ c.args.steps.now + n * (length c.args.text.now + 1))
    (one_count c.args.net.now (masks_in c.args.masks.now.set) count c.requires.masks is)
    c.fill.ensures.steps

pub returns-clause-table : goal.returns-clause-table
returns-clause-table g c = record {
  belongs = c.requires.belongs;
  table = c.in_ok-masks.ensures.table c.args.net.now c.requires.masks;
}

pub returns-clause-steps : goal.returns-clause-steps
returns-clause-steps g c = λ count is.
    subst (λ n. c.fill.new.steps ≤ c.args.steps.now + n * (length c.args.text.now + 1))
    (one_count c.args.net.now (masks_in c.args.masks.now.set) count c.requires.masks is)
    c.fill.ensures.steps
