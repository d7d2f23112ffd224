use Rattle.std.proofs.Common.{ℕ, List, [], ◌∷◌, ◌↔◌, Vec, Global, sym, ap, subst}
use Rattle.std.specs.Prelude.{Contains}
use Rattle.ux_base.proofs.Lists.{nothing_in}
use Rattle.ux_monitor.specs.declared.owing.Obligation.{Obligation}
use Rattle.ux_monitor.specs.declared.rule.Sign.{Sign}
use Rattle.ux_monitor.specs.declared.rule.Sign.TheVariants.{If, Then}
use Rattle.ux_monitor.specs.Rules.{Run}
use Rattle.ux_monitor.specs.Watches.{IsOpened, Opens}
use Rattle.ux_monitor.proofs.NotingLemmas.{from_one, at_one}
use Rattle.ux_monitor.proofs.OwingLemmas.{opened_told, opened_ordered}
use Rattle.ux_monitor.proofs.watching.begin.Goals as goal

pub returns-clause-first : goal.returns-clause-first
returns-clause-first c =
    let steps = c.args.steps.now in
    let ifs = c.in_ok-ifs.ifs.items in
    let thens = c.in_ok-thens.thens.items in
    let owed = c.open.new.owed.keys in
    let seen = c.in_ok-seen.seen in
    let is_ifs = ap (λ (v : Vec ℕ Global). v.items) c.in_ok-seen.ensures.ifs in
    let is_thens = ap (λ (v : Vec ℕ Global). v.items) c.in_ok-seen.ensures.thens in
    let Opened : Sign → List ℕ → Type 0 =
    λ mark xs. (k : ℕ) → Contains xs k ↔ Opens steps mark k in
    let opens : (mark : Sign) (xs : List ℕ) → ((k : ℕ) → Contains xs k ↔
    ((p : ℕ) × Contains (0 ∷ []) p × Run steps p k (mark ∷ []))) → Opened mark xs =
    λ mark xs is k. (
      λ h. from_one (λ p. Run steps p k (mark ∷ [])) ((is k).0 h),
      λ r. (is k).1 (at_one (λ p. Run steps p k (mark ∷ [])) r),
    ) in
    let opened : IsOpened steps ifs thens (λ o. ⊥) seen.owed.items =
    opened_ordered steps ifs thens (λ o. ⊥) owed seen.owed.items c.in_ok-seen.ensures.owed
    (opened_told steps ifs thens (Contains c.new-owed.result.keys) (λ o. ⊥) owed
    (λ o h. nothing_in
    (subst (λ (xs : List Obligation). Contains xs o) c.new-owed.ensures.empty h))
    (subst (λ (xs : List ℕ). IsOpened steps xs thens (Contains c.new-owed.result.keys) owed)
    c.as_slice.ensures.value
    (subst (λ (xs : List ℕ). IsOpened steps c.as_slice.result.now xs
    (Contains c.new-owed.result.keys) owed) c.as_slice-2.ensures.value
    c.in_ok-open.ensures.opened))) in
    record {
      ifs = subst (Opened If) (sym is_ifs) (opens If ifs c.in_ok-ifs.ensures);
      thens = subst (Opened Then) (sym is_thens) (opens Then thens c.in_ok-thens.ensures);
      opened = subst (λ (xs : List ℕ). IsOpened steps xs seen.thens.items (λ o. ⊥) seen.owed.items)
          (sym is_ifs)
          (subst (λ (xs : List ℕ). IsOpened steps ifs xs (λ o. ⊥) seen.owed.items)
          (sym is_thens) opened);
    }
