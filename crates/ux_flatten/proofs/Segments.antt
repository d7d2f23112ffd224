-- Pieces of a list: what stands there from a place on.
use Rattle.std.proofs.Common.{arith, ◌≡◌, ℕ, zero, suc, ◌+◌, ◌≤◌, List, [], ◌∷◌, ◌++◌, Some, None, refl, sym, subst, ◌∙◌, ap, append_assoc, append-nil, slice_get, length, length-append}

-- the piece stands in the list from this place on
pub record Segment {A : Type 0} (all : List A) (place : ℕ) (piece : List A) : Type 0 where
  pub front : List A
  pub behind : List A
  pub is : all ≡ front ++ (piece ++ behind)
  pub at : length front ≡ place

pub segment_whole : {A : Type 0} (all : List A) → Segment all 0 all
segment_whole all =
    record { front = []; behind = []; is = sym (append-nil all); at = refl }

pub segment_left : {A : Type 0} (all : List A) (place : ℕ) (left right : List A) →
    Segment all place (left ++ right) → Segment all place left
segment_left all place left right s = record {
  front = s.front;
  behind = right ++ s.behind;
  is = s.is ∙ ap (λ l. s.front ++ l) (append_assoc left right s.behind);
  at = s.at;
}

pub segment_right : {A : Type 0} (all : List A) (place : ℕ) (left right : List A) →
    Segment all place (left ++ right) → Segment all (place + length left) right
segment_right all place left right s = record {
  front = s.front ++ left;
  behind = s.behind;
  is = s.is ∙ (ap (λ l. s.front ++ l) (append_assoc left right s.behind)
      ∙ sym (append_assoc s.front left (right ++ s.behind)));
  at = omega (arith, length-append s.front left, s.at);
}

pub segment_inside : {A : Type 0} (all : List A) (place : ℕ) (piece : List A) →
    Segment all place piece → place + length piece ≤ length all
segment_inside all place piece s =
    let whole : length all ≡ length (s.front ++ (piece ++ s.behind)) = ap length s.is in
    omega (
      arith,
      whole,
      s.at,
      length-append s.front (piece ++ s.behind),
      length-append piece s.behind,
    )

-- what stands in front, and behind
get_left : {A : Type 0} (left right : List A) (i : ℕ) (x : A) → slice_get left i ≡ Some x →
    slice_get (left ++ right) i ≡ Some x
get_left [] right i x found =
    let none : None ≡ Some x = found in
    cc
get_left (y ∷ left) right zero x found = found
get_left (y ∷ left) right (suc i) x found = get_left left right i x found

get_right : {A : Type 0} (left right : List A) (i : ℕ) →
    slice_get (left ++ right) (length left + i) ≡ slice_get right i
get_right [] right i = subst (λ k. slice_get right k ≡ slice_get right i) (omega arith) refl
get_right (y ∷ left) right i =
    let k : length (y ∷ left) + i ≡ suc (length left + i) = omega arith in
    rw k (get_right left right i)

pub segment_get : {A : Type 0} (all : List A) (place : ℕ) (piece : List A) (i : ℕ) (x : A) →
    Segment all place piece → slice_get piece i ≡ Some x → slice_get all (place + i) ≡ Some x
segment_get all place piece i x s found =
    subst (λ n. slice_get all (n + i) ≡ Some x) s.at
    (subst (λ l. slice_get l (length s.front + i) ≡ Some x) (sym s.is)
    (get_right s.front (piece ++ s.behind) i ∙ get_left piece s.behind i x found))
