use Rattle.std.proofs.Common.{arith, refl, sym, subst, List, Bool}
use Rattle.std.specs.Prelude.{Contains, IsTrue, false}
use Rattle.std.specs.List.{All}
use Rattle.std.proofs.lemmas.List.{take_all}
use Rattle.std.proofs.lemmas.List.Elements.{Contains-get_or, All-more, All-contains}
use Rattle.ux_monitor.specs.declared.owing.Obligation.{Obligation}
use Rattle.ux_monitor.specs.Owing.{IsWell}
use Rattle.ux_monitor.proofs.owing.are_well.Goals as goal

no_true : IsTrue false → ⊥
no_true h = cc

pub loop-one-init : goal.loop-one-init
loop-one-init c = λ k d h. absurd (omega arith)

pub loop-one-preserved : goal.loop-one-preserved
loop-one-preserved c =
    let P : Obligation → Type 0 = λ o. IsWell c.args.steps.now c.args.ends.now o in
    All-more P c.args.owed.now c.loop-one.one-index c.one-item.result c.loop-one-test.true
    c.loop-one.invariant
    (subst P c.one-item.is (c.in_ok-is_one.ensures.0 c.if-not-is_one.false))

pub returns-then-not-is_one : goal.returns-then-not-is_one
returns-then-not-is_one c = (
  λ t. absurd (no_true t),
  λ all. absurd (no_true (subst (λ (b : Bool). IsTrue b) c.if-not-is_one.true
      (c.in_ok-is_one.ensures.1 (all c.one-item.result
      (subst (λ (x : Obligation). Contains c.args.owed.now x) (sym c.one-item.is)
      (Contains-get_or c.args.owed.now c.loop-one.one-index c.one-item.result
      c.loop-one-test.true)))))),
)

pub returns : goal.returns
returns c =
    let P : Obligation → Type 0 = λ o. IsWell c.args.steps.now c.args.ends.now o in
    let owed = c.args.owed.now in (
      λ t o h. All-contains P owed o
          (subst (λ (xs : List Obligation). All P xs)
          (take_all c.loop-one.one-index owed c.loop-one-test.false) c.loop-one.invariant) h,
      λ all. refl,
    )
