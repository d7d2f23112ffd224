use Rattle.std.proofs.Common.{arith, ◌++◌, string_bytes, ap, ◌∙◌}
use Rattle.std.specs.Prelude.{option_copied}
use Rattle.std.proofs.lemmas.Result.{on_ok_weaker}
use Rattle.ux_image.specs.Codes.{made_of_pieces}
use Rattle.ux_image.specs.Cutting.{changed_by}
use Rattle.ux_image.proofs.CutLemmas.{cut_length}
use Rattle.ux_image.proofs.MadeLemmas.{made_more, made_last}
use Rattle.ux_image.proofs.rebuilding.put_pieces.Goals as goal

pub loop-cut-smaller : goal.loop-cut-smaller
loop-cut-smaller c =
    let part = cut_length c.loop-cut.rest.now c.in-Some.cut c.in-Some.ensures in
    omega (arith, part)

pub loop-cut-preserved : goal.loop-cut-preserved
loop-cut-preserved c =
    let old = string_bytes c.loop-cut.text in
    let rest = c.in-Some.cut.behind.now in (
      c.in-Some.ensures.utf8,
      ap (λ pairs. string_bytes c.push_str.new.self ++ made_of_pieces pairs rest)
          c.behind_first-pairs_left.ensures
          ∙ made_more c.loop-cut.pairs_left.now c.loop-cut.rest.now c.in-Some.cut
          c.in-Some.ensures old (string_bytes c.put_changed.new.text)
          (string_bytes c.push_str.new.self)
          (string_bytes c.args.text.now ++ made_of_pieces c.args.pairs.now c.args.form.now)
          (c.in_ok-put_changed.ensures
          ∙ ap (λ pair. old ++ changed_by pair c.in-Some.cut.piece.now) c.first.ensures.value)
          c.in_ok-push_str.ensures.bytes c.loop-cut.invariant.1,
    )

pub returns : goal.returns
returns c =
    on_ok_weaker c.put_changed-2.result
    (made_last c.loop-cut.pairs_left.now c.loop-cut.rest.now c.in_default.ensures
    (option_copied c.first-2.result) (string_bytes c.loop-cut.text)
    (string_bytes c.put_changed-2.new.text)
    (string_bytes c.args.text.now ++ made_of_pieces c.args.pairs.now c.args.form.now)
    c.first-2.ensures.value c.loop-cut.invariant.1) c.put_changed-2.ensures
