-- Configurations behind a list of them.
use Rattle.std.proofs.Common.{◌≡◌, ℕ, List, ◌++◌, ◌⊎◌, ◌↔◌, inl, inr, sym, subst}
use Rattle.std.specs.Prelude.{Contains, map}
use Rattle.std.proofs.lemmas.List.Elements.{Contains-append_left, Contains-append_right, Contains-append_cases}
use Rattle.ux_base.proofs.JoinedLists.{contains_mapped, contained_mapped}
use Rattle.ux_chart.specs.declared.config.Config.{Config}

-- a list with a mapped list behind has what the relation tells besides
pub added : {A : Type 0} (f : A → Config) (P : ℕ → ℕ → Type 0) (old new : List Config)
    (xs : List A) → new ≡ old ++ map f xs →
    ((x : A) → Contains xs x → P (f x).state (f x).at) →
    ((w : Config) → P w.state w.at → (x : A) × Contains xs x × (f x ≡ w)) →
    (w : Config) → Contains new w ↔ (Contains old w ⊎ P w.state w.at)
added f P old new xs is each only w = (
  λ h. elim (Contains-append_cases old (map f xs) w
      (subst (λ (l : List Config). Contains l w) is h)) [
        | inl o ↦ inl o
        | inr m ↦ let r = contained_mapped f xs w m in
            inr (subst (λ (v : Config). P v.state v.at) r.2 (each r.0 r.1))
      ],
  λ h. subst (λ (l : List Config). Contains l w) (sym is) (elim h [
    | inl o ↦ Contains-append_left old (map f xs) w o
    | inr p ↦ let r = only w p in
        Contains-append_right old (map f xs) w
        (subst (λ (v : Config). Contains (map f xs) v) r.2 (contains_mapped f xs r.0 r.1))
  ]),
)
