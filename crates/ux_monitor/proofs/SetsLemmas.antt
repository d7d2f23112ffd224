-- What is in a set of numbers, and how a list is taken into one.
use Rattle.std.proofs.Common.{◌≡◌, ℕ, ◌+◌, ◌<◌, ◌⊎◌, ◌↔◌, List, [], ◌∷◌, ◌++◌, inl, inr, sym, subst, Bool, length, take, get_or}
use Rattle.std.specs.Prelude.{Contains, IsTrue}
use Rattle.std.specs.Ordering.{nat_cmp}
use Rattle.std.specs.Cmp.{nat_cmp_total}
use Rattle.std.specs.BTreeSet.{BTreeSet, contains}
use Rattle.std.proofs.lemmas.Map.Lookups.{exact_unsigned}
use Rattle.std.proofs.lemmas.Map.Views.{btree_set_contains_iff}
use Rattle.std.proofs.lemmas.List.{take_more}
use Rattle.std.proofs.lemmas.List.Elements.{Contains-append_left, Contains-push, Contains-push_cases}

pub has_exactly : (s : BTreeSet ℕ) (k : ℕ) (b : Bool) → b ≡ contains nat_cmp s k →
    IsTrue b ↔ Contains s.keys k
has_exactly s k b is =
    let e = btree_set_contains_iff nat_cmp_total exact_unsigned s k in (
      λ h. e.0 (subst (λ (x : Bool). IsTrue x) is h),
      λ h. subst (λ (x : Bool). IsTrue x) (sym is) (e.1 h),
    )

-- one more element of the list
pub taken_more : (xs old new : List ℕ) (i : ℕ) (d : ℕ) → i < length xs →
    ((k : ℕ) → Contains new k ↔ (Contains old k ⊎ (k ≡ get_or xs i d))) →
    ((k : ℕ) → Contains old k ↔ Contains (take i xs) k) →
    (k : ℕ) → Contains new k ↔ Contains (take (i + 1) xs) k
taken_more xs old new i d inside more so_far k =
    let one = get_or xs i d in
    subst (λ (ys : List ℕ). Contains new k ↔ Contains ys k) (sym (take_more xs i d inside)) (
      λ h. elim ((more k).0 h) [
        | inl o ↦ Contains-append_left (take i xs) (one ∷ []) k ((so_far k).0 o)
        | inr e ↦ subst (λ (x : ℕ). Contains (take i xs ++ one ∷ []) x) (sym e)
            (Contains-push (take i xs) one)
      ],
      λ h. elim (Contains-push_cases (take i xs) one k h) [
        | inl o ↦ (more k).1 (inl ((so_far k).1 o))
        | inr e ↦ (more k).1 (inr (sym e))
      ],
    )

pub taken_none : (xs old : List ℕ) → old ≡ [] → (k : ℕ) → Contains old k ↔ Contains (take 0 xs) k
taken_none [] old none k = subst (λ (ys : List ℕ). Contains ys k ↔ Contains [] k) (sym none)
    (λ h. h, λ h. h)
taken_none (x ∷ xs) old none k = subst (λ (ys : List ℕ). Contains ys k ↔ Contains [] k) (sym none)
    (λ h. h, λ h. h)
