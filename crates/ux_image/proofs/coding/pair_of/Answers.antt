use Rattle.std.proofs.Common.{arith, length, ap, ◌∙◌}
use Rattle.ux_image.specs.Codes.{shared_len}
use Rattle.ux_image.proofs.SharedLemmas.{behind_few}
use Rattle.ux_image.proofs.coding.pair_of.Goals as goal

-- no more characters than the form has bytes
pub overflow_cast-result : goal.overflow_cast-result
overflow_cast-result c =
    let shared = shared_len c.args.form.now c.args.lemma.now in
    let few = behind_few shared c.args.form.now c.utf8.form in
    let counted = c.count_chars.ensures ∙ ap length c.behind_shared.ensures.form in
    omega (arith, few, counted)

pub returns : goal.returns
returns c =
    let taken = c.count_chars.ensures ∙ ap length c.behind_shared.ensures.form in
    let added = c.in_ok-from_str.ensures ∙ c.behind_shared.ensures.lemma in
    λ j. record { taken = taken j; added = added j }
