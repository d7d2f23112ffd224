-- The definitions on small graphs and rules.
use Rattle.std.proofs.Common.{arith, ◌≡◌, ℕ, List, [], ◌∷◌, sym, ap, inl, inr}
use Rattle.ux_base.proofs.Lists.{nothing_in, first_or_later, contains_first, contains_later}
use Rattle.ux_digraph.specs.declared.closing.Rule.{Rule}
use Rattle.ux_digraph.specs.Paths.{Path, one, more, Reaches, here}
use Rattle.ux_digraph.specs.Rules.{Derived, fact, by}

-- two nodes, of which the first leads to the second alone
chain : List (List ℕ)
chain = (1 ∷ []) ∷ [] ∷ []

-- two nodes that lead to each other
circle : List (List ℕ)
circle = (1 ∷ []) ∷ (0 ∷ []) ∷ []

-- nothing lies after the chain's end
end_has_no_path : (v : ℕ) → Path chain 1 v → ⊥
unfolding chain
end_has_no_path v (one e) = nothing_in e
end_has_no_path v (more e p) = nothing_in e

-- each node of a circle leads back to itself
circle_is_a_cycle : Path circle 0 0
unfolding circle
circle_is_a_cycle = more (contains_first 1 []) (one (contains_first 0 []))

-- a node is reached from itself, with no edge
reached_from_itself : Reaches chain 1 1
reached_from_itself = here

-- place 2 needs both places 0 and 1
both : Rule
both = record { place = 2; first = 0; second = 1 }

both_premises : Derived (both ∷ []) (0 ∷ 1 ∷ []) 2
unfolding both
both_premises = by both (contains_first both [])
    (fact (contains_first 0 (1 ∷ []))) (fact (contains_later 0 (1 ∷ []) 1 (contains_first 1 [])))

one_premise : (x : ℕ) → Derived (both ∷ []) (0 ∷ []) x → x ≡ 0
unfolding both
one_premise x (fact c) = elim (first_or_later 0 [] x c) [
  | inl e ↦ sym e
  | inr n ↦ absurd (nothing_in n)
]
one_premise x (by r h a b) = elim (first_or_later both [] r h) [
  | inl e ↦
      let none : r.second ≡ 0 = one_premise r.second b in
      let is : 1 ≡ r.second = ap (λ (z : Rule). z.second) e in
      absurd (omega arith)
  | inr n ↦ absurd (nothing_in n)
]
