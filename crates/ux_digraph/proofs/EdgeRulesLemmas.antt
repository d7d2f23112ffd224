-- What follows by the rules of the edges is what a path leads to.
use Rattle.std.proofs.Common.{arith, ◌≡◌, ℕ, ◌+◌, ◌<◌, List, [], ◌∷◌, ◌++◌, refl, sym, ◌∙◌, ap, subst, inl, inr, length, ◌↔◌}
use Rattle.std.specs.Prelude.{Contains}
use Rattle.std.proofs.lemmas.List.Elements.{Contains-append_left, Contains-push, Contains-push_cases}
use Rattle.ux_base.proofs.Lists.{nothing_in, first_or_later, contains_first, less_or}
use Rattle.ux_digraph.proofs.PathsLemmas.{edge_from, reaches_then}
use Rattle.ux_digraph.specs.declared.closing.Rule.{Rule}
use Rattle.ux_digraph.specs.Paths.{row_of, Reaches, here, step, IsInside}
use Rattle.ux_digraph.specs.Rules.{Derived, fact, by, AreRulesInside}
use Rattle.ux_digraph.specs.EdgeRules.{IsRuleOf, AreRulesBelow, AreRulesAdded}

abbrev edge_rule : ℕ → ℕ → Rule
edge_rule u v = record { place = v; first = u; second = u }

same_rule : (u v : ℕ) (q : Rule) → v ≡ q.place → q.first ≡ u → q.second ≡ u → edge_rule u v ≡ q
same_rule u v q a b c =
    ap (λ n. record { place = n; first = u; second = u }) a
    ∙ (ap (λ n. record { place = q.place; first = n; second = u }) (sym b)
    ∙ ap (λ n. record { place = q.place; first = q.first; second = n }) (sym c))

pub none_added : (node : ℕ) (rules : List Rule) → AreRulesAdded rules node [] rules
none_added node rules = λ q. (
  λ h. inl h,
  λ h. elim h [
    | inl o ↦ o
    | inr n ↦ absurd (nothing_in n.2)
  ],
)

-- the rule of one more edge of the node
pub one_added : (before rules later : List Rule) (node v : ℕ) (row longer : List ℕ) →
    AreRulesAdded before node row rules → longer ≡ row ++ v ∷ [] →
    later ≡ rules ++ edge_rule node v ∷ [] → AreRulesAdded before node longer later
one_added before rules later node v row longer added is grown =
    subst (λ (xs : List ℕ). AreRulesAdded before node xs later) (sym is)
    (subst (λ (rs : List Rule). AreRulesAdded before node (row ++ v ∷ []) rs) (sym grown)
    (λ q. (
      λ h. elim (Contains-push_cases rules (edge_rule node v) q h) [
        | inl o ↦ elim ((added q).0 o) [
          | inl b ↦ inl b
          | inr n ↦ inr (n.0, n.1, Contains-append_left row (v ∷ []) q.place n.2)
        ]
        | inr e ↦ inr (subst (λ (z : Rule). IsRuleOf node (row ++ v ∷ []) z) e
            (refl, refl, Contains-push row v))
      ],
      λ h. elim h [
        | inl b ↦ Contains-append_left rules _ q ((added q).1 (inl b))
        | inr n ↦ elim (Contains-push_cases row v q.place n.2) [
          | inl o ↦ Contains-append_left rules _ q ((added q).1 (inr (n.0, n.1, o)))
          | inr e ↦ subst (λ (z : Rule). Contains (rules ++ edge_rule node v ∷ []) z)
              (same_rule node v q e n.0 n.1) (Contains-push rules (edge_rule node v))
        ]
      ],
    )))

module _ (edges : List (List ℕ)) where
  pub none_below : AreRulesBelow edges 0 []
  none_below = λ q. (λ h. absurd (nothing_in h), λ h. let no = h.0 in absurd (omega arith))

  -- the rules of one more node
  pub node_added : (count : ℕ) (rules later : List Rule) → AreRulesBelow edges count rules →
      AreRulesAdded rules count (row_of edges count) later → AreRulesBelow edges (count + 1) later
  node_added count rules later below added = λ q. (
    λ h. elim ((added q).0 h) [
      | inl o ↦ let b = (below q).0 o in let less = b.0 in (omega arith, b.1)
      | inr n ↦ let e = n.0 in (
        omega arith,
        (
          refl,
          n.1 ∙ sym n.0,
          subst (λ u. Contains (row_of edges u) q.place) (sym n.0) n.2,
        ),
      )
    ],
    λ h. elim (less_or q.first count) [
      | inl less ↦ (added q).1 (inl ((below q).1 (less, h.1)))
      | inr more ↦
          let less = h.0 in
          let e : q.first ≡ count = omega arith in
          (added q).1 (inr (
            e,
            h.1.1 ∙ e,
            subst (λ u. Contains (row_of edges u) q.place) e h.1.2,
          ))
    ],
  )

  module _ (rules : List Rule) (below : AreRulesBelow edges (length edges) rules) where
    pub edge_rules_inside : (start : ℕ) → IsInside edges → start < length edges →
        AreRulesInside (length edges) rules (start ∷ [])
    edge_rules_inside start inside less = record {
      rule = λ r h.
          let b = (below r).0 h in
          let first = b.0 in
          let second = b.1.1 in
          (inside.inside r.first r.place b.1.2, first, omega arith);
      start = λ x h. elim (first_or_later start [] x h) [
        | inl e ↦ omega arith
        | inr n ↦ absurd (nothing_in n)
      ];
    }

    derived_reaches : (start v : ℕ) → Derived rules (start ∷ []) v → Reaches edges start v
    derived_reaches start v (fact h) = elim (first_or_later start [] v h) [
      | inl e ↦ subst (λ w. Reaches edges start w) e here
      | inr n ↦ absurd (nothing_in n)
    ]
    derived_reaches start v (by r h a b) =
        reaches_then edges (derived_reaches start r.first a) ((below r).0 h).1.2

    reaches_derived : (facts : List ℕ) {u v : ℕ} → Derived rules facts u → Reaches edges u v →
        Derived rules facts v
    reaches_derived facts d here = d
    reaches_derived facts d (step {u = u} {v = w} e p) =
        reaches_derived facts (by (edge_rule u w)
        ((below (edge_rule u w)).1 (edge_from edges u w e, (refl, refl, e))) d d) p

    pub reached_exactly : (start v : ℕ) (P : Type 0) → P ↔ Derived rules (start ∷ []) v →
        P ↔ Reaches edges start v
    reached_exactly start v P marked = (
      λ p. derived_reaches start v (marked.0 p),
      λ r. marked.1 (reaches_derived (start ∷ []) (fact (contains_first start [])) r),
    )
