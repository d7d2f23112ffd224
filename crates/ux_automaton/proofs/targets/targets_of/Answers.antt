use Rattle.std.proofs.Common.{get_or, inl, inr}
use Rattle.std.specs.Prelude.{Contains}
use Rattle.ux_closure.specs.declared.stand.Stand.{Stand}
use Rattle.ux_net.specs.declared.state.Edge.{Edge}
use Rattle.ux_automaton.specs.declared.target.Target.{Target}
use Rattle.ux_walk.specs.Settings.{masked_setting}
use Rattle.ux_automaton.specs.Targets.{IsEdgeOf, IsTargetOver}
use Rattle.ux_automaton.proofs.AddingLemmas.{adds_all, adds_next, item_at}
use Rattle.ux_automaton.proofs.targets.targets_of.Goals as goal

pub loop-stand-preserved : goal.loop-stand-preserved
loop-stand-preserved c =
    let none : Stand = record {
      here = record { graph = 0; state = 0 };
      back = 0;
    } in
    let i = c.loop-stand.stand-index in
    let inside = c.loop-stand-test.true in (
      c.in_ok-add_stand.ensures.indexed,
      adds_next (λ (stand : Stand) (target : Target). (edge : Edge)
          × IsEdgeOf c.args.masked.now.net.now stand.here edge
          × IsTargetOver (masked_setting c.args.masked.now) c.args.at stand edge target)
          (λ target. ⊥) (Contains c.loop-stand.targets.items) (Contains c.add_stand.new.targets.items)
          c.args.stands.now i (get_or c.args.stands.now i none) inside
          (item_at c.args.stands.now i none inside) c.loop-stand.invariant.1
          c.in_ok-add_stand.ensures.targets,
    )

pub returns-clause-targets : goal.returns-clause-targets
returns-clause-targets c = λ target.
    let all = adds_all (λ (stand : Stand) (target : Target). (edge : Edge)
    × IsEdgeOf c.args.masked.now.net.now stand.here edge
    × IsTargetOver (masked_setting c.args.masked.now) c.args.at stand edge target)
    (λ t. ⊥) (Contains c.loop-stand.targets.items) c.args.stands.now c.loop-stand.stand-index
    c.loop-stand-test.false c.loop-stand.invariant.1 target in (
      λ h. elim (all.0 h) [
        | inl nowhere ↦ absurd nowhere
        | inr n ↦ (n.0, n.1, n.2.0, n.2.1, n.2.2)
      ],
      λ h. all.1 (inr (h.0, h.1, (h.2, h.3, h.4))),
    )
