use Rattle.std.proofs.Common.{sym, ap, not, ◌∙◌}
use Rattle.std.proofs.lemmas.Slice.Eq.{bytes_eq-Decides}
use Rattle.std.proofs.lemmas.Bool.{false≢true}
use Rattle.ux_image.proofs.CutLemmas.{cut_differs, same_behind, same_signs, same_again, both_none, not_flip}
use Rattle.ux_image.proofs.pieces.have_same_separators.Goals as goal

pub returns-in_default-split_piece : goal.returns-in_default-split_piece
returns-in_default-split_piece c = (
  λ h. absurd (false≢true h),
  λ same. absurd (cut_differs c.loop-in_form.form_rest.now c.loop-in_form.lemma_rest.now
      c.in-Some.in_form c.in-Some.ensures c.in_default-split_piece.ensures
      (c.loop-in_form.invariant.2.0 same)),
)

pub returns-then-ne : goal.returns-then-ne
returns-then-ne c = (
  λ h. absurd (false≢true h),
  λ same.
      let signs = same_signs c.loop-in_form.form_rest.now c.loop-in_form.lemma_rest.now
      c.in-Some.in_form c.in-Some-split_piece.in_lemma c.in-Some.ensures
      c.in-Some-split_piece.ensures (c.loop-in_form.invariant.2.0 same) in
      let equal = (bytes_eq-Decides c.in-Some.in_form.separator.now
      c.in-Some-split_piece.in_lemma.separator.now).1 signs in
      absurd (false≢true (sym (ap not equal) ∙ sym c.if-ne.ensures)),
)

pub loop-in_form-preserved : goal.loop-in_form-preserved
loop-in_form-preserved c =
    let signs = (bytes_eq-Decides c.in-Some.in_form.separator.now
    c.in-Some-split_piece.in_lemma.separator.now).0 (not_flip _ (sym c.if-ne.ensures)) in
    let form = c.loop-in_form.form_rest.now in
    let lemma = c.loop-in_form.lemma_rest.now in (
      c.in-Some.ensures.utf8,
      c.in-Some-split_piece.ensures.utf8,
      (
        λ same. same_behind form lemma c.in-Some.in_form c.in-Some-split_piece.in_lemma
            c.in-Some.ensures c.in-Some-split_piece.ensures (c.loop-in_form.invariant.2.0 same),
        λ later. c.loop-in_form.invariant.2.1 (same_again form lemma c.in-Some.in_form
            c.in-Some-split_piece.in_lemma c.in-Some.ensures c.in-Some-split_piece.ensures signs
            later),
      ),
    )

pub returns : goal.returns
returns c =
    let form = c.loop-in_form.form_rest.now in
    let lemma = c.loop-in_form.lemma_rest.now in
    both_none form lemma c.split_piece-2.result c.is_none.result c.in_default.ensures
    c.split_piece-2.ensures c.is_none.ensures c.loop-in_form.invariant.2
