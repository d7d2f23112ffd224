use Rattle.std.proofs.Common.{◌≡◌, ◌∙◌, sym}
use Rattle.std.proofs.lemmas.Bool.{false≢true}
use Rattle.ux_image.specs.Cutting.{HasNoSeparator}
use Rattle.ux_image.specs.Pieces.{separators}
use Rattle.ux_image.proofs.ComparingLemmas.{pairs_whole, none_found}
use Rattle.ux_image.proofs.comparing.are_pairs_of.Goals.{else-is_some-via-then-is_some+else-have_same_separators, else-is_some-via-else-is_some}
use Rattle.ux_image.proofs.comparing.are_pairs_of.Goals as goal

-- the form has no separator, or others than the lemma
pub returns : goal.returns
returns c =
    let form = c.args.form.now in
    let lemma = c.args.lemma.now in
    let none : separators form ≡ separators lemma → HasNoSeparator form =
    elim c.else-is_some.branch [
      | else-is_some-via-then-is_some+else-have_same_separators w ↦ λ same. absurd (false≢true
          (sym w.if-have_same_separators.false ∙ w.have_same_separators.ensures.1 same))
      | else-is_some-via-else-is_some w ↦ λ _. none_found form c.split_piece.result
          c.is_some.result c.split_piece.ensures c.is_some.ensures w.if-is_some.false
    ] in
    let whole = pairs_whole form lemma none in (
      λ h. c.is_pair_of_whole.ensures.0 h ∙ sym whole,
      λ same. c.is_pair_of_whole.ensures.1 (same ∙ whole),
    )
