-- What a policy keeps of what comes from all starts, start by start.
use Rattle.std.proofs.Common.{arith, ◌≡◌, ℕ, ◌+◌, ◌<◌, ◌≤◌, ◌⊎◌, inl, inr, List, [], ◌++◌, subst, length}
use Rattle.std.specs.Prelude.{◌↔◌}
use Rattle.std.proofs.lemmas.Bool.Decides.{leb_tells}
use Rattle.std.proofs.lemmas.Option.{slice_get_within}
use Rattle.ux_base.specs.declared.settings.Policy.{Policy}
use Rattle.ux_tokens.specs.Tokens.{Token}
use Rattle.ux_locate.specs.Finding.{IsFound, IsFoundBefore}
use Rattle.ux_locate.specs.Hits.{IsStart}
use Rattle.ux_locate.specs.Keeping.{AreBest, AreKept, IsReached, reach_of}
use Rattle.ux_locate.proofs.BestLemmas.{best_same}
use Rattle.ux_locate.proofs.KeepingLemmas.{kept_free, kept_none, kept_reached, kept_same}

-- a start stands in the text
pub start_within : (tokens : List Token) (start : ℕ) → IsStart tokens start → start < length tokens
start_within tokens start s = slice_get_within tokens start s.token s.at_place

earlier_or_here : (k n : ℕ) → k < n + 1 → (k < n) ⊎ (k ≡ n)
earlier_or_here k n lt =
    elim (leb_tells n k) [ inl a ↦ inr (omega (arith, lt, a.1)) | inr b ↦ inl b.1 ]

-- what comes from the starts up to a position comes from those before it, or from there
pub found_splits : {X : Type 0} (tokens : List Token) (From : ℕ → X → Type 0) (start : ℕ) (x : X) →
    IsFoundBefore tokens From (start + 1) x
    ↔ (IsFoundBefore tokens From start x ⊎ (IsStart tokens start × From start x))
found_splits tokens From start x = (
  λ f. elim (earlier_or_here f.0 start f.1) [
    | inl early ↦ inl (f.0, early, f.2, f.3)
    | inr same ↦ inr (subst (IsStart tokens) same f.2, subst (λ (n : ℕ). From n x) same f.3)
  ],
  λ f. elim f [
    | inl early ↦ (early.0, omega (arith, early.1), early.2, early.3)
    | inr here ↦ (start, omega arith, here.0, here.1)
  ],
)

-- after the last position, all starts were looked at
pub found_all : {X : Type 0} (tokens : List Token) (From : ℕ → X → Type 0) (count : ℕ) →
    length tokens ≤ count → (x : X) → IsFoundBefore tokens From count x ↔ IsFound tokens From x
found_all tokens From count past x = (
  λ f. (f.0, f.2, f.3),
  λ f. let low = start_within tokens f.0 f.1 in (f.0, omega (arith, low, past), f.1, f.2),
)

module _ {X : Type 0} (policy : Policy) (first last : X → ℕ) (tokens : List Token)
    (From : ℕ → X → Type 0)
    (begins : (start : ℕ) → IsStart tokens start → (x : X) → From start x → first x ≡ start) where
  -- what is kept of what comes from the starts before a position
  abbrev Kept : ℕ → List X → Type 0
  Kept start kept = AreKept policy first last (IsFoundBefore tokens From start) kept

  -- what comes from the position, if it is a start
  abbrev FromHere : ℕ → X → Type 0
  FromHere start x = IsStart tokens start × From start x

  -- no start was looked at
  pub kept_start : Kept 0 []
  kept_start = kept_none policy first last (IsFoundBefore tokens From 0)
      (λ x f. omega (arith, f.1))

  module _ (start : ℕ) where
    splits : (x : X) → IsFoundBefore tokens From (start + 1) x
        ↔ (IsFoundBefore tokens From start x ⊎ FromHere start x)
    splits x = found_splits tokens From start x

    before : (x : X) → IsFoundBefore tokens From start x → first x < start
    before x f =
        let at = begins f.0 f.2 x f.3 in
        omega (arith, at, f.1)

    here_at : (x : X) → FromHere start x → first x ≡ start
    here_at x f = begins start f.0 x f.1

    module _ (kept : List X) (are : Kept start kept) where
      -- a kept hit reaches the start
      pub kept_inside : IsReached policy (reach_of last kept) start → Kept (start + 1) kept
      kept_inside reached = kept_reached policy first last start (IsFoundBefore tokens From start)
          (FromHere start) (IsFoundBefore tokens From (start + 1)) before here_at splits kept are
          reached

      -- nothing comes from the start
      pub kept_skip : (IsStart tokens start → (x : X) → From start x → ⊥) → Kept (start + 1) kept
      kept_skip none = kept_same policy first last (IsFoundBefore tokens From start)
          (IsFoundBefore tokens From (start + 1)) (λ x. (
            λ f. (splits x).1 (inl f),
            λ f. elim ((splits x).0 f) [
              | inl early ↦ early
              | inr here ↦ absurd (none here.0 x here.1)
            ],
          )) kept are

      -- the best of what comes from the start are added
      pub kept_next : (IsReached policy (reach_of last kept) start → ⊥) → IsStart tokens start →
          (best : List X) → AreBest policy last (From start) best → Kept (start + 1) (kept ++ best)
      kept_next free starts best bests = kept_free policy first last start
          (IsFoundBefore tokens From start) (FromHere start)
          (IsFoundBefore tokens From (start + 1)) before here_at splits kept are free best
          (best_same policy last (From start) (FromHere start)
          (λ x. (λ f. (starts, f), λ f. f.1)) best bests)

  -- all starts were looked at
  pub kept_all : (count : ℕ) (kept : List X) → length tokens ≤ count → Kept count kept →
      AreKept policy first last (IsFound tokens From) kept
  kept_all count kept past are = kept_same policy first last (IsFoundBefore tokens From count)
      (IsFound tokens From) (found_all tokens From count past) kept are
