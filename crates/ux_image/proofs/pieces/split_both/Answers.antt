use Rattle.std.proofs.Common.{sym, ◌∙◌}
use Rattle.ux_image.proofs.CutLemmas.{separators_none, none_from_separators, cut_differs}
use Rattle.ux_image.proofs.pieces.split_both.Goals as goal

pub returns-in_err-in_form : goal.returns-in_err-in_form
returns-in_err-in_form c =
    rw c.from_residual.ensures (
      c.in_err-in_form.ensures,
      none_from_separators c.args.lemma.now
          (sym c.requires ∙ separators_none c.args.form.now c.in_err-in_form.ensures),
    )

pub returns-in_err-in_lemma : goal.returns-in_err-in_lemma
returns-in_err-in_lemma c =
    absurd (cut_differs c.args.form.now c.args.lemma.now c.in_ok-in_form.in_form
    c.in_ok-in_form.ensures c.in_err-in_lemma.ensures c.requires)
