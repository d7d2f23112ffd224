use Rattle.std.proofs.Common.{arith}
use Rattle.ux_image.specs.Codes.{pairs_of_pieces}
use Rattle.ux_image.proofs.CutLemmas.{same_behind, cut_length}
use Rattle.ux_image.proofs.MadeLemmas.{pairs_more, pairs_all}
use Rattle.ux_image.proofs.coding.pairs_of_pieces.Goals as goal

pub pair_of-requires : goal.pair_of-requires
pair_of-requires c =
    let part = cut_length c.loop-in_form.form_rest.now c.in-Some.in_form c.in-Some.ensures.0 in
    omega (arith, part)

pub loop-in_form-smaller : goal.loop-in_form-smaller
loop-in_form-smaller c =
    let part = cut_length c.loop-in_form.form_rest.now c.in-Some.in_form c.in-Some.ensures.0 in
    omega (arith, part)

pub loop-in_form-preserved : goal.loop-in_form-preserved
loop-in_form-preserved c =
    let form = c.loop-in_form.form_rest.now in
    let lemma = c.loop-in_form.lemma_rest.now in
    let cuts = c.in-Some.ensures in
    let part = cut_length form c.in-Some.in_form cuts.0 in (
      cuts.0.utf8,
      cuts.1.utf8,
      pairs_more form lemma c.in-Some.in_form c.in-Some.in_lemma cuts.0 cuts.1 c.loop-in_form.pairs
          c.push.new.self (pairs_of_pieces c.args.form.now c.args.lemma.now)
          c.in_ok-pair_of.field-0 c.in_ok-pair_of.ensures c.in_ok-push.ensures
          c.loop-in_form.invariant.2,
      same_behind form lemma c.in-Some.in_form c.in-Some.in_lemma cuts.0 cuts.1
          c.loop-in_form.invariant.3,
      omega (arith, part),
    )

pub returns : goal.returns
returns c =
    pairs_all c.loop-in_form.form_rest.now c.loop-in_form.lemma_rest.now c.in_default.ensures.0
    c.in_default.ensures.1 c.loop-in_form.pairs c.push-2.new.self
    (pairs_of_pieces c.args.form.now c.args.lemma.now) c.in_ok-pair_of-2.field-0
    c.in_ok-pair_of-2.ensures c.in_ok-push-2.ensures c.loop-in_form.invariant.2
