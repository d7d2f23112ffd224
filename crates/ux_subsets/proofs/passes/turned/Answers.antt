use Rattle.std.proofs.Common.{ℕ, List, ◌≡◌, refl, sym, ap, subst, ◌∙◌}
use Rattle.std.specs.Prelude.{IsTrue, false}
use Rattle.ux_subsets.specs.declared.automaton.Link.{Link}
use Rattle.ux_subsets.specs.Paths.{reversed, IsAscending}
use Rattle.ux_subsets.specs.Building.{IsPass}
use Rattle.ux_subsets.specs.Turning.{HasEnd}
use Rattle.ux_subsets.proofs.BackwardsLemmas.{back_up}
use Rattle.ux_subsets.proofs.passes.turned.Goals as goal

no_true : IsTrue false → ⊥
no_true h = cc

pub returns-then-not-has_end-clause-nothing : goal.returns-then-not-has_end-clause-nothing
returns-then-not-has_end-clause-nothing c = λ end.
    no_true (c.if-not-has_end.ensures.1 (subst (λ (k : ℕ). HasEnd k c.as_slice.result.now) (sym c.in_ok-last.ensures)
    (subst (λ (ls : List Link). HasEnd c.args.forth.last ls) (sym c.as_slice.ensures.value) end)))

pub returns-clause-left : goal.returns-clause-left
returns-clause-left c =
    let forth = c.args.forth in
    let again = c.in_ok-again.again in
    let turned : c.reversed_links-turned.result.items ≡ reversed forth.last forth.links.items =
    c.reversed_links-turned.ensures ∙ ap (λ (k : ℕ). reversed k forth.links.items) c.in_ok-last.ensures in (
      subst (λ (k : ℕ). HasEnd k forth.links.items) c.in_ok-last.ensures
          (subst (λ (ls : List Link). HasEnd c.in_ok-last.last ls) c.as_slice.ensures.value (c.if-not-has_end.ensures.0 refl)),
      λ up. record {
        back = again.links.items;
        pass = subst (λ (ls : List Link). IsPass (λ (q : ℕ) (w : List ℕ). q ≡ 0) (λ w. Unit {0}) forth.last ls again.last again.links.items) turned
            (c.in_ok-again.ensures.pass (subst (λ (ls : List Link). IsAscending forth.last ls) (sym turned) (back_up forth.last forth.links.items up)));
        made = c.reversed_links-links.ensures ∙ ap (λ (k : ℕ). reversed k again.links.items) c.in_ok-narrowed.ensures;
      },
    )
