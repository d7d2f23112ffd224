use Rattle.std.proofs.Common.{rules, ◌≡◌, ◌+◌, ap, inl, inr, length, subst}
use Rattle.std.proofs.lemmas.Result.{err_from_is_err_and}
use Rattle.ux_image_reader.specs.declared.error.ImageError.TheVariants.{BadCode}
use Rattle.ux_image_lists.specs.Lists.{code}
use Rattle.ux_image_lists.proofs.FieldLemmas.{still}
use Rattle.ux_image_lists.proofs.SetLemmas.{added_new, added_not, codes_decide}
use Rattle.ux_image_lists.proofs.lists.read_next_code.Goals as goal

pub returns-in_err-code-clause-err : goal.returns-in_err-code-clause-err
returns-in_err-code-clause-err c =
    let failed = c.from_residual-in_err-code in
    let p = err_from_is_err_and failed.result failed.ensures.1 in
    let same : c.in_ok-number.number ≡ c.args.first + length c.args.codes.now.keys = search rules in
    rw (p.1, p.2) (still c.in_err-code.ensures.err (λ r.
    inl (subst (λ n. (code c.args.rules n).Refuses c.args.rest.now.bytes.now c.in_err-code.field-0.0)
    same r)))

pub returns-then-not-branch-clause-err : goal.returns-then-not-branch-clause-err
returns-then-not-branch-clause-err c =
    let same : c.in_ok-number.number ≡ c.args.first + length c.args.codes.now.keys = search rules in
    let rest = c.read_code.new.rest.bytes.now in
    inr (inr (
      c.in_ok-code.code,
      rest,
      subst (λ n. (code c.args.rules n).Begins c.args.rest.now.bytes.now c.in_ok-code.code rest) same
          c.in_ok-code.ensures.ok,
      added_not _ codes_decide c.args.codes.now.keys c.in_ok-code.code _
          c.in_ok-insert.ensures.added c.if-not-branch.true,
      ap BadCode same,
    ))

pub returns-clause-ok : goal.returns-clause-ok
returns-clause-ok c =
    let same : c.in_ok-number.number ≡ c.args.first + length c.args.codes.now.keys = search rules in
    let rest = c.read_code.new.rest.bytes.now in
    let added = added_new _ codes_decide c.args.codes.now.keys c.in_ok-code.code _
    c.in_ok-insert.ensures.added c.insert.new.self.keys c.in_ok-insert.ensures.keys
    c.if-not-branch.false in (
      c.in_ok-code.code,
      (
        subst (λ n. (code c.args.rules n).Begins c.args.rest.now.bytes.now c.in_ok-code.code rest)
            same c.in_ok-code.ensures.ok,
        added.0,
      ),
      added.1,
    )
