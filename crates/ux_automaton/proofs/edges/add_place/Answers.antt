use Rattle.std.proofs.Common.{◌∙◌, inl, inr, sym, subst}
use Rattle.std.proofs.lemmas.Option.{none-some, same_Some}
use Rattle.ux_net.specs.declared.state.Edge.{Edge}
use Rattle.ux_walk.specs.Settings.{masked_setting}
use Rattle.ux_automaton.specs.Targets.{IsTargetOver}
use Rattle.ux_automaton.proofs.CacheLemmas.{either, through}
use Rattle.ux_automaton.proofs.Results.{on_ok}
use Rattle.ux_automaton.proofs.KnownLemmas.{place_known}
use Rattle.ux_automaton.proofs.edges.add_place.Goals as goal

pub returns-in-Some : goal.returns-in-Some
returns-in-Some c = on_ok c.add_edge.result _ _ (λ adds target. through (adds target) (either (
  λ over. (c.in-Some.edge.now, sym c.in-Some.ensures, over),
  λ at. subst (λ (e : Edge).
      IsTargetOver (masked_setting c.args.masked.now) c.args.at c.args.stand e target)
      (same_Some at.0 c.in-Some.edge.now (sym at.1 ∙ sym c.in-Some.ensures)) at.2,
))) c.add_edge.ensures

pub returns-in-None : goal.returns-in-None
returns-in-None c = λ target. (
  λ h. inl h,
  λ h. elim h [ inl old ↦ old | inr at ↦ absurd (none-some at.0 (c.in-None.ensures ∙ at.1)) ],
)

pub add_edge-requires : goal.add_edge-requires
add_edge-requires c = record {
  known = place_known c.args.masked.now c.args.edges.now c.requires.known c.args.place
      c.in-Some.edge.now (sym c.in-Some.ensures);
}
