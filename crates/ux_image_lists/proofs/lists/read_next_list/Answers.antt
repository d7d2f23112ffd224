use Rattle.std.proofs.Common.{rules, inl, inr, refl}
use Rattle.std.proofs.lemmas.Result.{err_from_is_err_and}
use Rattle.ux_image.proofs.KeepLemmas.{lists_decide}
use Rattle.ux_image_lists.proofs.FieldLemmas.{still}
use Rattle.ux_image_lists.proofs.SetLemmas.{added_new, added_not}
use Rattle.ux_image_lists.proofs.lists.read_next_list.Goals as goal

pub returns-in_err-list-clause-err : goal.returns-in_err-list-clause-err
returns-in_err-list-clause-err c =
    let failed = c.from_residual in
    let p = err_from_is_err_and failed.result failed.ensures.1 in
    rw (p.1, p.2) (still c.in_err-list.ensures.err (λ r. inl r))

pub returns-then-not-branch-clause-err : goal.returns-then-not-branch-clause-err
returns-then-not-branch-clause-err c =
    inr (inr (
      c.in_ok-list.list,
      c.read_list.new.rest.bytes.now,
      c.in_ok-list.ensures.ok,
      added_not _ lists_decide c.args.all.now.keys c.in_ok-list.list _
          c.in_ok-insert.ensures.added c.if-not-branch.true,
      refl,
    ))

pub returns-clause-ok : goal.returns-clause-ok
returns-clause-ok c =
    let added = added_new _ lists_decide c.args.all.now.keys c.in_ok-list.list _
    c.in_ok-insert.ensures.added c.insert.new.self.keys c.in_ok-insert.ensures.keys
    c.if-not-branch.false in (
      c.in_ok-list.list,
      (c.in_ok-list.ensures.ok, added.0),
      added.1,
      search rules,
    )
