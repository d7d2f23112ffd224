use Rattle.std.proofs.Common.{List, inl, inr, subst}
use Rattle.std.specs.Prelude.{Contains}
use Rattle.ux_closure.specs.declared.stand.Stand.{Stand}
use Rattle.ux_automaton.proofs.AddingLemmas.{nothing_in}
use Rattle.ux_automaton.proofs.fronts.each_once.Goals as goal

pub returns : goal.returns
returns c = λ stand. (
  λ h. elim ((c.in_ok-put_all-2.ensures stand).0 h) [
    | inl a ↦ elim ((c.in_ok-put_all.ensures stand).0 a) [
      | inl nowhere ↦ absurd (nothing_in
          (subst (λ (l : List Stand). Contains l stand) c.new-stands.ensures.empty nowhere))
      | inr one ↦ inl one
    ]
    | inr other ↦ inr other
  ],
  λ h. (c.in_ok-put_all-2.ensures stand).1 (elim h [
    | inl one ↦ inl ((c.in_ok-put_all.ensures stand).1 (inr one))
    | inr other ↦ inr other
  ]),
)
