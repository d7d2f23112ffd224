use Rattle.std.proofs.Common.{ℕ, List, Vec, Global, sym, ap, subst}
use Rattle.std.specs.Prelude.{Contains}
use Rattle.ux_monitor.specs.declared.owing.Obligation.{Obligation}
use Rattle.ux_monitor.specs.declared.rule.Sign.{Sign}
use Rattle.ux_monitor.specs.declared.rule.Sign.TheVariants.{If, Then}
use Rattle.ux_monitor.specs.Watches.{IsOpened, AreLeft, WasOwed, IsNext}
use Rattle.ux_monitor.specs.Steps.{Among}
use Rattle.ux_monitor.specs.Owing.{AreLater}
use Rattle.ux_monitor.proofs.OwingLemmas.{opened_told, opened_ordered, each_settled}
use Rattle.ux_monitor.proofs.PassingLemmas.{next_for}
use Rattle.ux_monitor.proofs.watching.advance.Goals as goal

pub returns-clause-next : goal.returns-clause-next
returns-clause-next c =
    let steps = c.args.steps.now in
    let ends = c.args.ends.now in
    let passed = c.in_ok-passed.passed.keys in
    let before = c.args.seen.now in
    let ifs = c.in_ok-ifs.ifs.items in
    let thens = c.in_ok-thens.thens.items in
    let owed = c.open.new.owed.keys in
    let was = before.owed.items in
    let between = c.in_ok-owed.owed.keys in
    let next = c.in_ok-seen.seen in
    let ordered = c.in_ok-seen.ensures.owed in
    let is_ifs = ap (λ (v : Vec ℕ Global). v.items) c.in_ok-seen.ensures.ifs in
    let is_thens = ap (λ (v : Vec ℕ Global). v.items) c.in_ok-seen.ensures.thens in
    let Left : Sign → (old new : List ℕ) → Type 0 =
    λ mark old new. AreLeft steps ends (Among passed) mark old 0 new in
    let Was : Obligation → Type 0 = λ o. WasOwed steps ends (Among passed) was 0 o in
    let later : AreLater steps ends passed was was between =
    subst (λ (xs : List Obligation). AreLater steps ends passed xs xs between)
    c.as_slice-3.ensures.value c.in_ok-owed.ensures in
    let opened : IsOpened steps ifs thens Was next.owed.items =
    opened_ordered steps ifs thens Was owed next.owed.items ordered
    (opened_told steps ifs thens (Contains between) Was owed later.only
    (subst (λ (xs : List ℕ). IsOpened steps xs thens (Contains between) owed)
    c.as_slice-4.ensures.value
    (subst (λ (xs : List ℕ). IsOpened steps c.as_slice-4.result.now xs (Contains between) owed)
    c.as_slice-5.ensures.value c.in_ok-open.ensures.opened))) in
    let is_next : IsNext steps ends (Among passed) before 0 next = record {
      ifs = subst (Left If before.ifs.items) (sym is_ifs)
          (subst (λ (xs : List ℕ). Left If xs ifs) c.as_slice.ensures.value c.in_ok-ifs.ensures);
      thens = subst (Left Then before.thens.items) (sym is_thens)
          (subst (λ (xs : List ℕ). Left Then xs thens) c.as_slice-2.ensures.value
          c.in_ok-thens.ensures);
      opened = subst (λ (xs : List ℕ). IsOpened steps xs next.thens.items Was next.owed.items)
          (sym is_ifs)
          (subst (λ (xs : List ℕ). IsOpened steps ifs xs Was next.owed.items)
          (sym is_thens) opened);
      each = each_settled steps ends passed was between next.owed.items later
          (λ o h. (ordered o).1 (c.in_ok-open.ensures.still o h));
    } in
    next_for steps ends (Among c.args.tests.now) passed 0 c.in_ok-passed.ensures before next is_next
