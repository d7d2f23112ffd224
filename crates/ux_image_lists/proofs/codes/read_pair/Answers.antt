use Rattle.std.proofs.Common.{inl, inr}
use Rattle.std.proofs.lemmas.Result.{err_from_is_err_and}
use Rattle.ux_image_lists.proofs.FieldLemmas.{still}
use Rattle.ux_image_lists.proofs.codes.read_pair.Goals as goal

pub returns-in_err-added-clause-err : goal.returns-in_err-added-clause-err
returns-in_err-added-clause-err c =
    let failed = c.from_residual-in_err-added in
    let p = err_from_is_err_and failed.result failed.ensures.1 in
    rw (p.1, p.2) (still c.in_err-added.ensures.err (λ r. inr (
      c.in_ok-taken.taken,
      c.read_taken.new.rest.bytes.now,
      c.in_ok-taken.ensures.ok,
      inr (
        c.in_ok-many.many,
        c.read_length.new.rest.bytes.now,
        c.in_ok-many.ensures.ok,
        inl r,
      ),
    )))
