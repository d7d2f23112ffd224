-- What was found of a visit, gathered.
use Rattle.std.proofs.Common.{arith, ◌≡◌, ℕ, ◌+◌, ◌<◌, ◌≤◌, List, [], ◌⊎◌, ◌↔◌, inl, inr, refl, sym, ap, subst, ◌∙◌, length}
use Rattle.std.specs.Prelude.{Some, slice_get, Contains}
use Rattle.std.proofs.lemmas.Option.{same_Some}
use Rattle.ux_listing.specs.declared.config.Visit.{Visit}
use Rattle.ux_listing.specs.declared.config.End.{End}
use Rattle.ux_listing.specs.declared.config.Found.{Found}
use Rattle.ux_listing.specs.declared.config.Item.{Item}
use Rattle.ux_listing.specs.declared.config.Item.TheVariants.{Ends}
use Rattle.ux_listing.specs.Sets.{IsAdded}
use Rattle.ux_listing.specs.Walking.{found_at}
use Rattle.ux_listing.proofs.ReachingLemmas.{last_or_before}
use Rattle.ux_listing.proofs.SetsLemmas.{nothing_in, in_place, place_of, still}

-- the ends of the first items were gathered
pub record IsGathering (v : Visit) (items : List Item) (ends : List End) (k : ℕ) : Type 0 where
  pub only : (x : End) → Contains ends x → Contains items (Ends (found_at v x))
  pub has : (i : ℕ) (x : End) → i < k → slice_get items i ≡ Some (Ends (found_at v x)) →
      Contains ends x

module _ (v : Visit) (items : List Item) where
  pub gathering_none : (ends : List End) → ends ≡ [] → IsGathering v items ends 0
  gathering_none ends none = record {
    only = λ x h. absurd (nothing_in (subst (λ (l : List End). Contains l x) none h));
    has = λ i x h. absurd (omega (arith, h));
  }

  -- one more item
  pub gathering_more : (ends new : List End) (k : ℕ) (item : Item) → slice_get items k ≡ Some item →
      ((x : End) → Contains new x ↔ (Contains ends x ⊎ (item ≡ Ends (found_at v x)))) →
      IsGathering v items ends k → IsGathering v items new (k + 1)
  gathering_more ends new k item at told g = record {
    only = λ x h. elim ((told x).0 h) [
      | inl o ↦ g.only x o
      | inr is ↦ in_place items k (Ends (found_at v x)) (at ∙ ap (λ (w : Item). Some w) is)
    ];
    has = λ i x below here. (told x).1 (elim (last_or_before i k below) [
      | inl is ↦ inr (same_Some item (Ends (found_at v x))
          (sym at ∙ (ap (λ (q : ℕ). slice_get items q) (sym is) ∙ here)))
      | inr l ↦ inl (g.has i x l here)
    ]);
  }

  -- all items
  pub gathering_all : (ends : List End) (k : ℕ) → length items ≤ k → IsGathering v items ends k →
      (x : End) → Contains ends x ↔ Contains items (Ends (found_at v x))
  gathering_all ends k past g x = (
    g.only x,
    λ h. let p = place_of items (Ends (found_at v x)) h in
        let within = p.1 in
        g.has p.0 x (omega (arith, within, past)) p.2,
  )

-- one more end
pub one_end : (v : Visit) (item : Item) (f : Found) (old new : List End) → item ≡ Ends f →
    f.visit ≡ v → IsAdded old new (record { end = f.end; fold = f.fold }) → (x : End) →
    Contains new x ↔ (Contains old x ⊎ (item ≡ Ends (found_at v x)))
one_end v item f old new is same a x = (
  λ h. elim (a.adds.only x h) [
    | inl o ↦ inl o
    | inr e ↦ inr (is ∙ (ap (λ (w : Visit). Ends (record { visit = w; end = f.end; fold = f.fold })) same
        ∙ ap (λ (y : End). Ends (found_at v y)) (sym e)))
  ],
  λ h. elim h [
    | inl o ↦ still _ _ a.adds.kept x o
    | inr e ↦
        let both : Ends f ≡ Ends (found_at v x) = sym is ∙ e in
        let found : f ≡ found_at v x = cc in
        subst (λ (y : End). Contains new y)
        (ap (λ (z : Found). record { end = z.end; fold = z.fold }) found) a.has
  ],
)

-- an end of another visit, or no end
pub other_end : (v : Visit) (item : Item) (ends : List End) →
    ((f : Found) → item ≡ Ends f → f.visit ≡ v → ⊥) → (x : End) →
    Contains ends x ↔ (Contains ends x ⊎ (item ≡ Ends (found_at v x)))
other_end v item ends never x = (
  λ h. inl h,
  λ h. elim h [ inl o ↦ o | inr e ↦ absurd (never (found_at v x) e refl) ],
)
