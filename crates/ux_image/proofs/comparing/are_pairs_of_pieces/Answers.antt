use Rattle.std.proofs.Common.{arith, ◌≡◌}
use Rattle.std.proofs.lemmas.Bool.{false≢true}
use Rattle.ux_image.specs.Codes.{pairs_of_pieces}
use Rattle.ux_image.proofs.ComparingLemmas.{goes_on, differ, compared}
use Rattle.ux_image.proofs.CutLemmas.{same_behind, cut_length}
use Rattle.ux_image.proofs.MadeLemmas.{pairs_cut, pairs_none}
use Rattle.ux_image.proofs.comparing.are_pairs_of_pieces.Goals as goal

pub loop-in_form-smaller : goal.loop-in_form-smaller
loop-in_form-smaller c =
    let part = cut_length c.loop-in_form.form_rest.now c.in-Some.in_form c.in-Some.ensures.0 in
    omega (arith, part)

pub loop-in_form-preserved : goal.loop-in_form-preserved
loop-in_form-preserved c =
    let form = c.loop-in_form.form_rest.now in
    let lemma = c.loop-in_form.lemma_rest.now in
    let cuts = c.in-Some.ensures in (
      cuts.0.utf8,
      cuts.1.utf8,
      same_behind form lemma c.in-Some.in_form c.in-Some.in_lemma cuts.0 cuts.1
          c.loop-in_form.invariant.2,
      goes_on (c.args.pairs.now ≡ pairs_of_pieces c.args.form.now c.args.lemma.now) _
          c.loop-in_form.pairs_left.now (pairs_of_pieces form lemma) _
          (pairs_cut form lemma c.in-Some.in_form c.in-Some.in_lemma cuts.0 cuts.1)
          c.loop-in_form.invariant.3 c.in-Some-behind_pair.later.now
          c.in-Some-behind_pair.ensures,
    )

pub returns-in_default-behind_pair : goal.returns-in_default-behind_pair
returns-in_default-behind_pair c =
    let form = c.loop-in_form.form_rest.now in
    let lemma = c.loop-in_form.lemma_rest.now in
    let cuts = c.in-Some.ensures in (
      λ h. absurd (false≢true h),
      λ same. absurd (differ (c.args.pairs.now
          ≡ pairs_of_pieces c.args.form.now c.args.lemma.now) _ c.loop-in_form.pairs_left.now
          (pairs_of_pieces form lemma) _
          (pairs_cut form lemma c.in-Some.in_form c.in-Some.in_lemma cuts.0 cuts.1)
          c.loop-in_form.invariant.3 c.in_default-behind_pair.ensures same),
    )

pub returns : goal.returns
returns c =
    let form = c.loop-in_form.form_rest.now in
    let lemma = c.loop-in_form.lemma_rest.now in
    compared (c.args.pairs.now ≡ pairs_of_pieces c.args.form.now c.args.lemma.now)
    c.is_pair_of_whole.result c.loop-in_form.pairs_left.now (pairs_of_pieces form lemma) _
    (pairs_none form lemma c.in_default.ensures.0 c.in_default.ensures.1)
    c.loop-in_form.invariant.3 c.is_pair_of_whole.ensures
