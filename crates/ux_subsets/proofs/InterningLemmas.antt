-- A machine whose numbers stand for keys of a list that grows.
use Rattle.std.proofs.Common.{◌≡◌, ℕ, List, sym, subst, ◌∙◌}
use Rattle.std.specs.Prelude.{Some, slice_get}
use Rattle.std.proofs.lemmas.Option.{same_Some}
use Rattle.ux_subsets.specs.Machines.{Grows, StandsFor}

-- keys that stay in their places keep their meaning
pub interned : {K : Type 0} (Means : K → List ℕ → Type 0) (Satisfies : List ℕ → Type 0) (old new : List K) →
    ((n : ℕ) (k : K) → slice_get old n ≡ Some k → slice_get new n ≡ Some k) →
    Grows (StandsFor Means old) (StandsFor Means new) Satisfies Satisfies
interned Means Satisfies old new kept = record {
  kept = λ q w s. (s.0, kept q s.0 s.1, s.2);
  only = λ q u w s t. (s.0, s.1, subst (λ (k : _). Means k w) (same_Some t.0 s.0 (sym t.1 ∙ kept q s.0 s.1)) t.2);
  meant = λ w. (λ h. h, λ h. h);
}
