use Rattle.std.proofs.Common.{List, inl, inr, subst, sym}
use Rattle.std.specs.Prelude.{Contains}
use Rattle.ux_closure.specs.declared.stand.Stand.{Stand}
use Rattle.ux_automaton.proofs.Results.{if_ok}
use Rattle.ux_automaton.proofs.fronts.Fronts.join.Goals as goal

pub front_of-requires-clause-stands : goal.front_of-requires-clause-stands
front_of-requires-clause-stands c = λ stand inside. elim ((c.in_ok-stands.ensures stand).0
    (subst (λ (l : List Stand). Contains l stand) c.as_slice-3.ensures.keys inside)) [
      | inl a ↦ c.in_ok-first.ensures.there stand
          (subst (λ (l : List Stand). Contains l stand) c.as_slice.ensures.value a)
      | inr b ↦ c.in_ok-second.ensures.there stand
          (subst (λ (l : List Stand). Contains l stand) c.as_slice-2.ensures.value b)
    ]

pub returns-clause-both : goal.returns-clause-both
returns-clause-both c = if_ok c.front_of.result _ _ (λ front has stand. (
  λ h. elim ((c.in_ok-stands.ensures stand).0
      (subst (λ (l : List Stand). Contains l stand) c.as_slice-3.ensures.keys ((has stand).0 h))) [
        | inl a ↦ inl ((c.in_ok-first.ensures.stands stand).0
            (subst (λ (l : List Stand). Contains l stand) c.as_slice.ensures.value a))
        | inr b ↦ inr ((c.in_ok-second.ensures.stands stand).0
            (subst (λ (l : List Stand). Contains l stand) c.as_slice-2.ensures.value b))
      ],
  λ h. (has stand).1
      (subst (λ (l : List Stand). Contains l stand) (sym c.as_slice-3.ensures.keys)
      ((c.in_ok-stands.ensures stand).1 (elim h [
        | inl a ↦ inl (subst (λ (l : List Stand). Contains l stand) (sym c.as_slice.ensures.value)
            ((c.in_ok-first.ensures.stands stand).1 a))
        | inr b ↦ inr (subst (λ (l : List Stand). Contains l stand) (sym c.as_slice-2.ensures.value)
            ((c.in_ok-second.ensures.stands stand).1 b))
      ]))),
)) c.front_of.ensures.stands
