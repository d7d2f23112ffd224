use Rattle.std.proofs.Common.{◌≡◌, ◌<◌, ℕ, get_or, inl, inr, sym, subst, refl}
use Rattle.std.specs.Prelude.{Contains}
use Rattle.ux_automaton.specs.declared.target.Target.{Target}
use Rattle.ux_automaton.proofs.AddingLemmas.{adds_all, adds_next, item_at}
use Rattle.ux_automaton.proofs.OverLemmas.{target_is}
use Rattle.ux_automaton.proofs.targets.ends_after.Goals as goal

pub loop-target-preserved : goal.loop-target-preserved
loop-target-preserved c =
    let none : Target = record {
      at = 0;
      stand = record { here = record { graph = 0; state = 0 }; back = 0 };
    } in
    let i = c.loop-target.target-index in
    let inside = c.loop-target-test.true in
    adds_next (λ (target : Target) (end : ℕ). (c.args.after < target.at) × (end ≡ target.at))
    (λ end. ⊥) (Contains c.loop-target.ends.keys) (Contains c.put_after.new.ends.keys)
    c.args.targets.now i (get_or c.args.targets.now i none) inside
    (item_at c.args.targets.now i none inside) c.loop-target.invariant c.in_ok-put_after.ensures

pub returns : goal.returns
returns c = λ end.
    let all = adds_all (λ (target : Target) (e : ℕ). (c.args.after < target.at) × (e ≡ target.at))
    (λ e. ⊥) (Contains c.loop-target.ends.keys) c.args.targets.now c.loop-target.target-index
    c.loop-target-test.false c.loop-target.invariant end in (
      λ h. elim (all.0 h) [
        | inl nowhere ↦ absurd nowhere
        | inr n ↦ (
          subst (λ e. c.args.after < e) (sym n.2.1) n.2.0,
          n.0.stand,
          subst (Contains c.args.targets.now) (target_is n.0 end n.0.stand (sym n.2.1) refl) n.1,
        )
      ],
      λ h. all.1 (inr (record { at = end; stand = h.1 }, h.2, (h.0, refl))),
    )
