use Rattle.std.proofs.Common.{List, sym, subst}
use Rattle.std.specs.Prelude.{Contains}
use Rattle.std.proofs.lemmas.List.Sorted.{Contains-permutation, IsPermutation-sym}
use Rattle.ux_monitor.specs.declared.owing.Obligation.{Obligation}
use Rattle.ux_monitor.proofs.owing.in_order.Goals as goal

pub returns : goal.returns
returns c = λ o.
    let old = c.in_ok-list.list.items in
    let new = c.sort.new.self.items in
    let moved = c.sort.ensures.permutation in (
      λ h. subst (λ (xs : List Obligation). Contains xs o) c.in_ok-list.ensures
          (Contains-permutation new old o (IsPermutation-sym old new moved) h),
      λ h. Contains-permutation old new o moved
          (subst (λ (xs : List Obligation). Contains xs o) (sym c.in_ok-list.ensures) h),
    )
