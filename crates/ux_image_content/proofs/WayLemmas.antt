-- The way of a word through an automaton is one, and comes to no state twice.
use Rattle.std.proofs.Common.{arith, ◌≡◌, ℕ, List, [], ◌∷◌, ◌++◌, refl, sym, ◌∙◌, ap, subst}
use Rattle.std.specs.Prelude.{Contains}
use Rattle.std.proofs.lemmas.List.{append-nil}
use Rattle.std.proofs.lemmas.Option.{same_Some}
use Rattle.ux_dawg.specs.Paths.{edge, AreStates, Leads}
use Rattle.ux_dawg.specs.declared.state.Edge.{Edge}
use Rattle.ux_dawg.specs.declared.state.State.{State}
use Rattle.ux_dawg.proofs.MinimalLemmas.{one_edge}
use Rattle.ux_dawg.proofs.OrderLemmas.{falls}

pub leads_on : (states : List State) (i : ℕ) (u : List ℕ) (j : ℕ) (w : List ℕ) (k : ℕ) →
    Leads states i u j → Leads states j w k → Leads states i (u ++ w) k
leads_on states i [] j w k same rest = subst (λ n. Leads states n w k) (sym same) rest
leads_on states i (a ∷ u) j w k h rest =
    (h.0, h.1, h.2, h.3, leads_on states h.0 u j w k h.4 rest)

module _ (states : List State) (fit : AreStates states) where
  -- the way of a word is one
  pub leads_split : (i : ℕ) (u : List ℕ) (j : ℕ) (w : List ℕ) (k : ℕ) → Leads states i u j →
      Leads states i (u ++ w) k → Leads states j w k
  leads_split i [] j w k same h = subst (λ n. Leads states n w k) same h
  leads_split i (a ∷ u) j w k h g =
      let same : g.1 ≡ h.1 = same_Some g.1 h.1 (sym g.2 ∙ h.2) in
      let one = one_edge h.1.edges (fit i h.1 h.2).ascending (edge a h.0) (edge a g.0) h.3
      (subst (λ (s : State). Contains s.edges (edge a g.0)) same g.3) refl in
      let targets : h.0 ≡ g.0 = ap (λ (e : Edge). e.target) one in
      leads_split g.0 u j w k (subst (λ n. Leads states n u j) targets h.4) g.4

  pub leads_one : (i : ℕ) (u : List ℕ) (j k : ℕ) → Leads states i u j → Leads states i u k → j ≡ k
  leads_one i u j k h g =
      leads_split i u j [] k h (subst (λ (l : List ℕ). Leads states i l k) (sym (append-nil u)) g)

  -- no state is reached again
  pub no_round : (i : ℕ) (c : ℕ) (w : List ℕ) → Leads states i (c ∷ w) i → ⊥
  no_round i c w h =
      let low = (fit i h.1 h.2).within (edge c h.0) h.3 in
      let under = falls states fit h.0 w i h.4 in
      omega (arith, low, under)
