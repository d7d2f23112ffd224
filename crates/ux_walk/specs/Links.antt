-- Lists that share their tails, each named by a number: 0 is the empty list, and n + 1 the list
-- that begins with link n. Public: public contracts of this crate and of the crates above speak of
-- them.
use Rattle.std.specs.Prelude.{◌≡◌, ℕ, zero, suc, ◌≤◌, List, [], ◌∷◌, ◌++◌, ◌⊎◌, Option, Some, None, slice_get}
use Rattle.ux_walk.specs.declared.lists.Link.{Link}

-- the first link of a list, if it isn't empty
abbrev pub link_at : {A : Type 0} → List (Link A) → ℕ → Option (Link A)
link_at links zero = None
link_at links (suc n) = slice_get links n

-- the number names the list
abbrev pub Names : {A : Type 0} → List (Link A) → ℕ → List A → Type 0
Names links n [] = n ≡ 0
Names links n (x ∷ xs) =
    (tail : ℕ) × (link_at links n ≡ Some (record { head = x; tail = tail }))
    × Names links tail xs

-- the tail of each link was there before it
abbrev pub AreBelow : {A : Type 0} → List (Link A) → Type 0
AreBelow {A} links =
    (i : ℕ) (link : Link A) → slice_get links i ≡ Some link → link.tail ≤ i

-- links were added, if any
abbrev pub Extends : {A : Type 0} → List (Link A) → List (Link A) → Type 0
Extends {A} old new = (more : List (Link A)) × (new ≡ old ++ more)

-- the number is that of a link with this head and tail, which was there or was added
pub record IsConsed {A : Type 0} (old new : List (Link A)) (head : A) (tail number : ℕ)
    : Type 0 where
  pub at : link_at new number ≡ Some (record { head = head; tail = tail })
  pub added : (new ≡ old) ⊎ (new ≡ old ++ record { head = head; tail = tail } ∷ [])

-- the number names the elements of the later list, and behind them those of the earlier one
abbrev pub IsAppended : {A : Type 0} → (old new : List (Link A)) → (earlier later number : ℕ) →
    Type 0
IsAppended {A} old new earlier later number = (xs ys : List A) → Names old earlier xs →
    Names old later ys →
    Extends old new × AreBelow new × Names new number (ys ++ xs)

-- no element stands at two places
abbrev pub AreOnce : {A : Type 0} → List A → Type 0
AreOnce {A} xs =
    (i j : ℕ) (x : A) → slice_get xs i ≡ Some x → slice_get xs j ≡ Some x → i ≡ j
