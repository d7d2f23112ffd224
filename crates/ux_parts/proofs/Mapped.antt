-- Elements of mapped lists, by place.
use Rattle.std.proofs.Common.{arith, ◌≡◌, ℕ, zero, suc, List, [], ◌∷◌, refl, ap}
use Rattle.std.specs.Prelude.{map, Some, slice_get}
use Rattle.std.proofs.lemmas.Option.{same_Some, slice_get_within}

-- an element of a mapped list, at its place
pub mapped_at : {A B : Type 0} (f : A → B) (xs : List A) (i : ℕ) (y : B) →
    slice_get (map f xs) i ≡ Some y → (x : A) × (slice_get xs i ≡ Some x) × (f x ≡ y)
mapped_at f [] i y h = absurd (let w = slice_get_within [] i y h in omega (arith, w))
mapped_at f (x ∷ xs) zero y h = (x, refl, same_Some (f x) y h)
mapped_at f (x ∷ xs) (suc i) y h = mapped_at f xs i y h

-- and what stands at its place in the mapped list
pub map_at : {A B : Type 0} (f : A → B) (xs : List A) (i : ℕ) (x : A) →
    slice_get xs i ≡ Some x → slice_get (map f xs) i ≡ Some (f x)
map_at f [] i x h = absurd (let w = slice_get_within [] i x h in omega (arith, w))
map_at f (z ∷ xs) zero x h = ap (λ (t : _). Some (f t)) (same_Some z x h)
map_at f (z ∷ xs) (suc i) x h = map_at f xs i x h
