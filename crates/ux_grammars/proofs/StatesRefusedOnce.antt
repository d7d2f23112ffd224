-- Graphs of states are refused for one error.
use Rattle.std.proofs.Common.{arith, ◌≡◌, ◌≢◌, ◌⊎◌, inl, inr, ℕ, ◌<◌, List, refl, ap, subst}
use Rattle.std.proofs.lemmas.Bool.{cases_order}
use Rattle.ux_boxes.specs.Refusing.{is_name_at}
use Rattle.ux_boxes.specs.declared.error.NetError.{NetError}
use Rattle.ux_boxes.specs.declared.error.NetError.TheVariants.{MissingGraph, BadMask, ContextClose, NegativeRecursion, EmptyLoop, LeftRecursion, NoMemory}
use Rattle.ux_net.specs.declared.state_graph.StateGraph.{StateGraph}
use Rattle.ux_state_places.specs.RefusingStates.{RefusesStates, names_told}
use Rattle.ux_grammars.proofs.GrammarRefusedOnce.{first_named, one_name, step}

module _ (graphs : List StateGraph) where
  -- graphs that a test refuses aren't refused by a later one
  not_later : (e f : NetError) → f ≢ NoMemory → step e < step f → RefusesStates graphs e →
      RefusesStates graphs f → ⊥
  not_later (MissingGraph x) f some low r s = r
  not_later (BadMask x n place) f some low r s = r
  not_later (ContextClose x n) (NegativeRecursion y) some low r s = s.0 r.0 n r.2.here
  not_later (ContextClose x n) (EmptyLoop y m) some low r s = s.0.closed r.0 n r.2.here
  not_later (ContextClose x n) (LeftRecursion y m) some low r s = s.0.closed r.0 n r.2.here
  not_later (NegativeRecursion x) (EmptyLoop y m) some low r s = s.0.no_recursion r.1.0 r.1.2.here
  not_later (NegativeRecursion x) (LeftRecursion y m) some low r s =
      s.0.no_recursion r.1.0 r.1.2.here
  not_later (EmptyLoop x n) (LeftRecursion y m) some low r s = s.1 r.1.0 n r.1.2.here
  not_later e NoMemory some low r s = some refl
  not_later e f some low r s = omega (arith, low)

  -- a test refuses them for one error
  same_step : (e f : NetError) → e ≢ NoMemory → f ≢ NoMemory → step e ≡ step f →
      RefusesStates graphs e → RefusesStates graphs f → e ≡ f
  same_step (MissingGraph x) f some also same r s = absurd r
  same_step (BadMask x n place) f some also same r s = absurd r
  same_step (ContextClose x n) (ContextClose y m) some also same r s =
      first_named (names_told graphs) _ ContextClose x y n m r s
  same_step (NegativeRecursion x) (NegativeRecursion y) some also same r s =
      ap NegativeRecursion (by (cases_order r.1.0 s.1.0))
    where
      by : (r.1.0 ≡ s.1.0) ⊎ ((r.1.0 < s.1.0) ⊎ (s.1.0 < r.1.0)) → x ≡ y
      by (inl graph) =
          one_name (names_told graphs) s.1.0 x y
          (subst (λ (g : ℕ). is_name_at (names_told graphs) g x) graph r.1.1) s.1.1
      by (inr (inl low)) = absurd (s.1.2.least r.1.0 low r.1.2.here)
      by (inr (inr low)) = absurd (r.1.2.least s.1.0 low s.1.2.here)
  same_step (EmptyLoop x n) (EmptyLoop y m) some also same r s =
      first_named (names_told graphs) _ EmptyLoop x y n m r.1 s.1
  same_step (LeftRecursion x n) (LeftRecursion y m) some also same r s =
      first_named (names_told graphs) _ LeftRecursion x y n m r.2 s.2
  same_step NoMemory f some also same r s = absurd (some refl)
  same_step e NoMemory some also same r s = absurd (also refl)
  same_step e f some also same r s = absurd (omega (arith, same))

  -- graphs of states are refused for one error, want of memory aside
  pub states_refused_once : (e f : NetError) → e ≢ NoMemory → f ≢ NoMemory →
      RefusesStates graphs e → RefusesStates graphs f → e ≡ f
  states_refused_once e f some also r s = elim (cases_order (step e) (step f)) [
    | inl same ↦ same_step e f some also same r s
    | inr (inl low) ↦ absurd (not_later e f also low r s)
    | inr (inr low) ↦ absurd (not_later f e some low s r)
  ]
