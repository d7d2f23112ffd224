-- The least of the spots is the first place of which it is so.
use Rattle.std.proofs.Common.{arith, ◌≡◌, ℕ, List, [], ◌∷◌, ◌++◌, subst, sym, ◌∙◌, ◌⊎◌, inl, inr, ◌↔◌}
use Rattle.std.specs.Prelude.{Contains, Option, Some, None, IfSome}
use Rattle.std.proofs.lemmas.List.Elements.{Contains-append_left, Contains-push, Contains-push_cases}
use Rattle.ux_admission.specs.declared.spot.Spot.{Spot}
use Rattle.ux_admission.specs.Spots.{IsNotAfter, IsLeast, FindsFirst}

not_after : (a b c : Spot) → IsNotAfter a b → IsNotAfter b c → IsNotAfter a c
not_after a b c (inl x) (inl y) = inl (omega arith)
not_after a b c (inl x) (inr y) = let e = y.0 in inl (omega arith)
not_after a b c (inr x) (inl y) = let e = x.0 in inl (omega arith)
not_after a b c (inr x) (inr y) =
    let e = x.1 in
    let f = y.1 in
    inr (x.0 ∙ y.0, omega arith)

-- the lesser of the least and one more spot
pub least_more : (spots : List Spot) (best : Option Spot) (spot next : Spot) → IsLeast spots best →
    (next ≡ spot) ⊎ (best ≡ Some next) → IsNotAfter next spot →
    IfSome best (λ best. IsNotAfter next best) → IsLeast (spots ++ spot ∷ []) (Some next)
least_more spots None spot next least either here old = (
  elim either [
    | inl e ↦ subst (λ s. Contains (spots ++ spot ∷ []) s) (sym e) (Contains-push spots spot)
    | inr n ↦ absurd (cc)
  ],
  λ other h. elim (Contains-push_cases spots spot other h) [
    | inl a ↦ absurd (least other a)
    | inr e ↦ subst (λ s. IsNotAfter next s) e here
  ],
)
least_more spots (Some best) spot next least either here old = (
  elim either [
    | inl e ↦ subst (λ s. Contains (spots ++ spot ∷ []) s) (sym e) (Contains-push spots spot)
    | inr e ↦
        let same : best ≡ next = cc in
        subst (λ s. Contains (spots ++ spot ∷ []) s) same
        (Contains-append_left spots (spot ∷ []) best least.0)
  ],
  λ other h. elim (Contains-push_cases spots spot other h) [
    | inl a ↦ not_after next best other old (least.1 other a)
    | inr e ↦ subst (λ s. IsNotAfter next s) e here
  ],
)

-- the least of all spots of which it is so is the first
pub least_first : (IsSo : (g node : ℕ) → Type 0) (spots : List Spot) (best : Option Spot) →
    ((spot : Spot) → Contains spots spot ↔ IsSo spot.graph spot.node) → IsLeast spots best →
    FindsFirst IsSo best
least_first IsSo spots None exact least = λ g node s.
    let spot : Spot = record { graph = g; node = node } in
    least spot ((exact spot).1 s)
least_first IsSo spots (Some best) exact least = record {
  here = (exact best).0 least.0;
  first = λ h m l s.
      let spot : Spot = record { graph = h; node = m } in
      elim (least.1 spot ((exact spot).1 s)) [
        | inl a ↦ omega arith
        | inr b ↦ let e = b.0 in omega arith
      ];
  least = λ m l s.
      let spot : Spot = record { graph = best.graph; node = m } in
      elim (least.1 spot ((exact spot).1 s)) [
        | inl a ↦ omega arith
        | inr b ↦ let e = b.1 in omega arith
      ];
}
