-- Lists that share their fronts, each named by a number: 0 is the empty list, and n + 1 the list
-- whose last element is that of link n. Public: public contracts speak of them.
use Rattle.std.specs.Prelude.{◌≡◌, ℕ, zero, suc, ◌≤◌, List, [], ◌∷◌, ◌++◌, ◌⊎◌, Option, Some, None, slice_get, reverse}
use Rattle.ux_folds.specs.declared.lists.Link.{Link}

-- the last link of a list, if it isn't empty
abbrev pub link_at : {A : Type 0} → List (Link A) → ℕ → Option (Link A)
link_at links zero = None
link_at links (suc n) = slice_get links n

-- the number names the list with these elements, the last one first
abbrev pub Names : {A : Type 0} → List (Link A) → ℕ → List A → Type 0
Names links n [] = n ≡ 0
Names links n (x ∷ xs) =
    (front : ℕ) × (link_at links n ≡ Some (record { last = x; front = front }))
    × Names links front xs

-- the number names the list
abbrev pub Spells : {A : Type 0} → List (Link A) → ℕ → List A → Type 0
Spells links n xs = Names links n (reverse xs)

-- the front of each link was there before it
abbrev pub AreBelow : {A : Type 0} → List (Link A) → Type 0
AreBelow {A} links =
    (i : ℕ) (link : Link A) → slice_get links i ≡ Some link → link.front ≤ i

-- no value stands at two places
abbrev pub AreOnce : {A : Type 0} → List A → Type 0
AreOnce {A} xs =
    (i j : ℕ) (x : A) → slice_get xs i ≡ Some x → slice_get xs j ≡ Some x → i ≡ j

-- no link stands at two places, and the front of each was there before it
pub record AreSound {A : Type 0} (links : List (Link A)) : Type 0 where
  pub once : AreOnce links
  pub below : AreBelow links

-- each value keeps its place
abbrev pub Keeps : {A : Type 0} → (old new : List A) → Type 0
Keeps {A} old new =
    (i : ℕ) (x : A) → slice_get old i ≡ Some x → slice_get new i ≡ Some x

-- the number is that of a link with this element behind this list, which was there or was added
pub record IsConsed {A : Type 0} (old new : List (Link A)) (last : A) (front number : ℕ)
    : Type 0 where
  pub at : link_at new number ≡ Some (record { last = last; front = front })
  pub added : (new ≡ old) ⊎ (new ≡ old ++ record { last = last; front = front } ∷ [])

-- where the old number names a list, the new one names it with these elements behind
abbrev pub IsMore : {A : Type 0} → (old new : List (Link A)) → (front : ℕ) → List A → (number : ℕ) → Type 0
IsMore {A} old new front more number = (xs : List A) → AreSound old → Spells old front xs →
    AreSound new × Keeps old new × Spells new number (xs ++ more)

-- the value stands at the place alone, and each other one keeps its place
pub record IsFirstOf {A : Type 0} (old new : List A) (value : A) (place : ℕ) : Type 0 where
  pub at : slice_get new place ≡ Some value
  pub once : AreOnce new
  pub kept : Keeps old new
