use Rattle.std.proofs.Common.{sym, ◌∙◌, ap}
use Rattle.std.specs.Str.{encode_utf8_all}
use Rattle.std.proofs.lemmas.Slice.Eq.{bytes_eq-Decides}
use Rattle.std.proofs.lemmas.Str.{chars-nil}
use Rattle.ux_image.specs.Codes.{behind_chars, shared_len}
use Rattle.ux_image.proofs.SharedLemmas.{added_end, behind_itself}
use Rattle.ux_image.proofs.coding.behind_shared.Goals as goal

pub returns-clause-lemma : goal.returns-clause-lemma
returns-clause-lemma c =
    added_end c.args.form.now c.args.lemma.now c.loop-form_behind.form_rest.now
    c.loop-form_behind.lemma_rest.now c.loop-form_behind.invariant.1 c.in_default.ensures
    c.loop-form_behind.invariant.3

-- where the texts are one, nothing is left of either
pub returns-then-eq-clause-form : goal.returns-then-eq-clause-form
returns-then-eq-clause-form c =
    let same = (bytes_eq-Decides c.args.form.now c.args.lemma.now).0
    (sym c.eq.ensures ∙ c.if-eq.true) in
    chars-nil
    ∙ sym (behind_itself c.args.form.now)
    ∙ ap (λ text. behind_chars (shared_len c.args.form.now text) c.args.form.now) same

pub returns-then-eq-clause-lemma : goal.returns-then-eq-clause-lemma
returns-then-eq-clause-lemma c =
    let same = (bytes_eq-Decides c.args.form.now c.args.lemma.now).0
    (sym c.eq.ensures ∙ c.if-eq.true) in
    ap encode_utf8_all (sym (behind_itself c.args.lemma.now)
    ∙ ap (λ text. behind_chars (shared_len text c.args.lemma.now) c.args.lemma.now) (sym same))
