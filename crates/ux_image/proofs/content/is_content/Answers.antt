use Rattle.std.proofs.Common.{arith, ◌≢◌, List, [], refl, sym, ◌∙◌, subst}
use Rattle.std.specs.Prelude.{All}
use Rattle.std.proofs.lemmas.Bool.{false≢true}
use Rattle.std.proofs.lemmas.List.{take_all, drop_all}
use Rattle.ux_dela.specs.declared.entry.Entry.{Entry}
use Rattle.ux_image.specs.Contents.{AreInOrder}
use Rattle.ux_image.proofs.OrderLemmas.{order_more, some_more, follows_there}
use Rattle.ux_image.proofs.content.is_content.Goals as goal

pub returns-then-not-may_follow : goal.returns-then-not-may_follow
returns-then-not-may_follow c = (
  λ h. absurd (false≢true h),
  λ content.
      let follows = c.may_follow.ensures.1 (follows_there c.args.entries.now
      c.loop-entry.entry-index c.entry-item.result c.loop-entry.last.now c.form-form.result.now
      (omega arith) c.entry-item.is c.form-form.ensures c.loop-entry.invariant.2 content) in
      absurd (false≢true (sym c.if-not-may_follow.true ∙ follows)),
)

pub loop-entry-preserved : goal.loop-entry-preserved
loop-entry-preserved c =
    let entries = c.args.entries.now in
    let i = c.loop-entry.entry-index in
    let form = c.form-form.result.now in
    let last = c.loop-entry.last.now in
    let follows = c.may_follow.ensures.0 c.if-not-may_follow.false in (
      c.form-form.utf8,
      some_more entries i c.entry-item.result last form (omega arith) c.entry-item.is
          c.form-form.ensures follows c.loop-entry.invariant.1,
      order_more entries i c.entry-item.result last form (omega arith) c.entry-item.is
          c.form-form.ensures follows c.loop-entry.invariant.2,
    )

pub returns : goal.returns
returns c =
    let entries = c.args.entries.now in
    let i = c.loop-entry.entry-index in (
      λ _. record {
        some = subst (λ (es : List Entry). All (λ (e : Entry). e.form ≢ []) es)
            (take_all i entries (omega arith)) c.loop-entry.invariant.1;
        ordered = c.loop-entry.invariant.2.0 (subst (λ (es : List Entry). AreInOrder
            c.loop-entry.last.now es) (sym (drop_all i entries (omega arith))) tt);
      },
      λ content. refl,
    )
