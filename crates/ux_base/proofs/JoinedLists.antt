-- Joined lists: what they contain, and at which index each element stands.
use Rattle.std.proofs.Common.{arith, ◌≡◌, ℕ, zero, suc, ◌+◌, ◌-◌, ◌<◌, ◌≤◌, List, [], ◌∷◌, ◌++◌, refl, sym, ◌∙◌, ap, subst, inl, inr, length, append_assoc, append-nil, length-append}
use Rattle.std.specs.Prelude.{Some, slice_get, Contains, map, sum_by}
use Rattle.std.specs.List.{range_with_len, flat_map}
use Rattle.std.proofs.lemmas.List.{get_or-append-add, get_or_append_left}
use Rattle.std.proofs.lemmas.Option.{slice_get-get_or}
use Rattle.std.proofs.lemmas.List.Elements.{Contains-append_left, Contains-append_right, Contains-append_cases, Contains-get_or}
use Rattle.std.proofs.lemmas.List.FromFn.{length-range_with_len, get_or-range_with_len, get_or-map-range_with_len, length-map-range_with_len, map-range_with_len_more}
use Rattle.std.proofs.lemmas.List.Sums.{sum_by-cons, sum_by_push}
use Rattle.ux_base.proofs.Lists.{less_or, nothing_in, first_or_later, contains_first, contains_later}

pub contains_joined : {A B : Type 0} (f : A → List B) (xs : List A) (x : A) (y : B) →
    Contains xs x → Contains (f x) y → Contains (flat_map f xs) y
contains_joined f [] x y h i = absurd (nothing_in h)
contains_joined f (z ∷ zs) x y h i = elim (first_or_later z zs x h) [
  | inl e ↦ Contains-append_left (f z) (flat_map f zs) y
      (subst (λ (t : _). Contains (f t) y) (sym e) i)
  | inr l ↦ Contains-append_right (f z) (flat_map f zs) y (contains_joined f zs x y l i)
]

pub contained_joined : {A B : Type 0} (f : A → List B) (xs : List A) (y : B) →
    Contains (flat_map f xs) y → (x : A) × Contains xs x × Contains (f x) y
contained_joined f [] y h = absurd (nothing_in h)
contained_joined f (z ∷ zs) y h = elim (Contains-append_cases (f z) (flat_map f zs) y h) [
  | inl a ↦ (z, contains_first z zs, a)
  | inr b ↦ let r = contained_joined f zs y b in (r.0, contains_later z zs r.0 r.1, r.2)
]

pub contains_mapped : {A B : Type 0} (f : A → B) (xs : List A) (x : A) → Contains xs x →
    Contains (map f xs) (f x)
contains_mapped f [] x h = absurd (nothing_in h)
contains_mapped f (z ∷ zs) x h = elim (first_or_later z zs x h) [
  | inl e ↦ subst (λ (t : _). Contains (f z ∷ map f zs) (f t)) e (contains_first (f z) (map f zs))
  | inr l ↦ contains_later (f z) (map f zs) (f x) (contains_mapped f zs x l)
]

pub contained_mapped : {A B : Type 0} (f : A → B) (xs : List A) (y : B) → Contains (map f xs) y →
    (x : A) × Contains xs x × (f x ≡ y)
contained_mapped f [] y h = absurd (nothing_in h)
contained_mapped f (z ∷ zs) y h = elim (first_or_later (f z) (map f zs) y h) [
  | inl e ↦ (z, contains_first z zs, e)
  | inr l ↦ let r = contained_mapped f zs y l in (r.0, contains_later z zs r.0 r.1, r.2)
]

pub contains_range : (n k : ℕ) → k < n → Contains (range_with_len 0 n) k
contains_range n k h =
    subst (λ x. Contains (range_with_len 0 n) x)
    (get_or-range_with_len 0 n k 0 h ∙ omega arith)
    (Contains-get_or (range_with_len 0 n) k 0 (let e = length-range_with_len 0 n in omega arith))

within_range : (a n k : ℕ) → Contains (range_with_len a n) k → k < a + n
within_range a zero k h = absurd (nothing_in h)
within_range a (suc n) k h = elim (first_or_later a (range_with_len (a + 1) n) k h) [
  | inl e ↦ omega arith
  | inr l ↦ let b = within_range (a + 1) n k l in omega arith
]

pub contained_range : (n k : ℕ) → Contains (range_with_len 0 n) k → k < n
contained_range n k h = let b = within_range 0 n k h in omega arith

-- look-ups in the two parts of a list
pub get_left : {A : Type 0} (xs ys : List A) (i : ℕ) → i < length xs →
    slice_get (xs ++ ys) i ≡ slice_get xs i
get_left [] ys i h = absurd (omega arith)
get_left (x ∷ xs) ys i h =
    slice_get-get_or ((x ∷ xs) ++ ys) i x (let e = length-append (x ∷ xs) ys in omega arith)
    ∙ (ap Some (get_or_append_left (x ∷ xs) ys x i h) ∙ sym (slice_get-get_or (x ∷ xs) i x h))

pub get_right : {A : Type 0} (xs ys : List A) (i : ℕ) → i < length ys →
    slice_get (xs ++ ys) (length xs + i) ≡ slice_get ys i
get_right xs [] i h = absurd (omega arith)
get_right xs (y ∷ ys) i h =
    slice_get-get_or (xs ++ y ∷ ys) (length xs + i) y
    (let e = length-append xs (y ∷ ys) in omega arith)
    ∙ (ap Some (get_or-append-add xs (y ∷ ys) i y) ∙ sym (slice_get-get_or (y ∷ ys) i y h))

pub get_mapped_range : {A : Type 0} (f : ℕ → A) (n i : ℕ) → i < n →
    slice_get (map f (range_with_len 0 n)) i ≡ Some (f i)
get_mapped_range f n i h =
    slice_get-get_or (map f (range_with_len 0 n)) i (f i)
    (let e = length-map-range_with_len f 0 n in omega arith)
    ∙ ap Some (get_or-map-range_with_len f 0 n i i (f i) h (omega arith))

-- Lists joined over a range, where the length of each is known.
module _ {A : Type 0} (f : ℕ → List A) (len : ℕ → ℕ) (same : (k : ℕ) → length (f k) ≡ len k) where
  abbrev before : ℕ → ℕ → ℕ
  before a k = sum_by len (range_with_len a k)

  abbrev joined : ℕ → ℕ → List A
  joined a n = flat_map f (range_with_len a n)

  more_before : (a k : ℕ) → before a (suc k) ≡ len a + before (a + 1) k
  more_before a k = sum_by-cons len a (range_with_len (a + 1) k)

  length_from : (a n : ℕ) → length (joined a n) ≡ before a n
  length_from a zero = refl
  length_from a (suc n) =
      length-append (f a) (joined (a + 1) n)
      ∙ (let e = same a in let r = length_from (a + 1) n in let m = more_before a n in omega arith)

  within_from : (a n k i : ℕ) → k < n → i < len (a + k) → before a k + i < length (joined a n)
  within_from a zero k i lt h = absurd (omega arith)
  within_from a (suc n) zero i lt h =
      let e : a + 0 ≡ a = omega arith in
      let h' : i < len a = subst (λ m. i < len m) e h in
      let z : before a 0 ≡ 0 = refl in
      rw (length-append (f a) (joined (a + 1) n), same a) (omega arith)
  within_from a (suc n) (suc k) i lt h =
      let e : a + suc k ≡ (a + 1) + k = omega arith in
      let r = within_from (a + 1) n k i (omega arith) (subst (λ m. i < len m) e h) in
      rw (length-append (f a) (joined (a + 1) n), same a)
      (let m = more_before a k in omega arith)

  get_from : (a n k i : ℕ) → k < n → i < len (a + k) →
      slice_get (joined a n) (before a k + i) ≡ slice_get (f (a + k)) i
  get_from a zero k i lt h = absurd (omega arith)
  get_from a (suc n) zero i lt h =
      let e : a + 0 ≡ a = omega arith in
      let h' : i < len a = subst (λ m. i < len m) e h in
      let z : before a 0 + i ≡ i = omega arith in
      rw e (ap (slice_get (f a ++ joined (a + 1) n)) z
      ∙ get_left (f a) (joined (a + 1) n) i (subst (λ m. i < m) (sym (same a)) h'))
  get_from a (suc n) (suc k) i lt h =
      let e : a + suc k ≡ (a + 1) + k = omega arith in
      let h' : i < len ((a + 1) + k) = subst (λ m. i < len m) e h in
      let r = get_from (a + 1) n k i (omega arith) h' in
      let at : before a (suc k) + i ≡ length (f a) + (before (a + 1) k + i) =
      let m = more_before a k in let s = same a in omega arith in
      let inside = within_from (a + 1) n k i (omega arith) h' in
      ap (slice_get (f a ++ joined (a + 1) n)) at
      ∙ (get_right (f a) (joined (a + 1) n) (before (a + 1) k + i) inside
      ∙ (r ∙ ap (λ m. slice_get (f m) i) (sym e)))

  -- an index in joined lists, as the number of a list and an index there
  record Found (a n i : ℕ) : Type 0 where
    pub part : ℕ
    pub inside : part < n
    pub index : ℕ
    pub below : index < len (a + part)
    pub at : i ≡ before a part + index

  found_from : (a n i : ℕ) → i < length (joined a n) → Found a n i
  found_from a zero i h = absurd (omega arith)
  found_from a (suc n) i h = elim (less_or i (len a)) [
    | inl first ↦
        let e : a ≡ a + 0 = omega arith in
        let z : before a 0 ≡ 0 = refl in
        record {
          part = 0;
          inside = omega arith;
          index = i;
          below = subst (λ m. i < len m) e first;
          at = omega arith;
        }
    | inr later ↦
        let s = same a in
        let l = length-append (f a) (joined (a + 1) n) in
        let r = found_from (a + 1) n (i - len a) (omega arith) in
        let e : (a + 1) + r.part ≡ a + suc r.part = omega arith in
        record {
          part = suc r.part;
          inside = let b = r.inside in omega arith;
          index = r.index;
          below = subst (λ m. r.index < len m) e r.below;
          at = let m = more_before a r.part in let t = r.at in omega arith;
        }
  ]

  pub length_joined : (n : ℕ) → length (joined 0 n) ≡ before 0 n
  length_joined n = length_from 0 n

  -- element i of the k-th of joined lists
  pub get_joined : (n k i : ℕ) → k < n → i < len k →
      slice_get (joined 0 n) (before 0 k + i) ≡ slice_get (f k) i
  get_joined n k i lt h =
      let e : k ≡ 0 + k = omega arith in
      get_from 0 n k i lt (subst (λ m. i < len m) e h) ∙ ap (λ m. slice_get (f m) i) (sym e)

  pub find_joined : (n i : ℕ) → i < length (joined 0 n) →
      (k : ℕ) × (k < n) × (j : ℕ) × (j < len k) × (i ≡ before 0 k + j)
  find_joined n i h =
      let r = found_from 0 n i h in
      let e : 0 + r.part ≡ r.part = omega arith in
      (r.part, r.inside, r.index, subst (λ m. r.index < len m) e r.below, r.at)

-- a range with one more
pub range_more : (n : ℕ) → range_with_len 0 (n + 1) ≡ range_with_len 0 n ++ n ∷ []
range_more n = go 0 n ∙ ap (λ k. range_with_len 0 n ++ k ∷ []) (omega arith)
  where
    go : (a n : ℕ) → range_with_len a (n + 1) ≡ range_with_len a n ++ (a + n) ∷ []
    go a zero = let e : a + 0 ≡ a = omega arith in rw e refl
    go a (suc n) =
        let e : (a + 1) + n ≡ a + suc n = omega arith in
        let m : suc n + 1 ≡ suc (n + 1) = omega arith in
        rw m (ap (λ xs. a ∷ xs) (go (a + 1) n
        ∙ ap (λ k. range_with_len (a + 1) n ++ k ∷ []) e))

pub sum_more : (f : ℕ → ℕ) (n : ℕ) →
    sum_by f (range_with_len 0 (n + 1)) ≡ sum_by f (range_with_len 0 n) + f n
sum_more f n = ap (sum_by f) (range_more n) ∙ sum_by_push f (range_with_len 0 n) n

-- a sum over a shorter range is no greater
pub sum_shorter : (f : ℕ → ℕ) (k n : ℕ) → k ≤ n →
    sum_by f (range_with_len 0 k) ≤ sum_by f (range_with_len 0 n)
sum_shorter f k n h = elim (less_or k n) [
  | inl lt ↦ go n lt
  | inr le ↦ let e : k ≡ n = omega arith in rw e (omega arith)
]
  where
    go : (n : ℕ) → k < n → sum_by f (range_with_len 0 k) ≤ sum_by f (range_with_len 0 n)
    go zero lt = absurd (omega arith)
    go (suc n) lt =
        let e : suc n ≡ n + 1 = omega arith in
        let m : sum_by f (range_with_len 0 (suc n)) ≡ sum_by f (range_with_len 0 n) + f n =
        ap (λ i. sum_by f (range_with_len 0 i)) e ∙ sum_more f n in
        elim (less_or k n) [
          | inl less ↦ let r = go n less in omega arith
          | inr le ↦
              let s : k ≡ n = omega arith in
              let t = ap (λ i. sum_by f (range_with_len 0 i)) s in
              omega arith
        ]

pub joined_append : {A B : Type 0} (f : A → List B) (xs ys : List A) →
    flat_map f (xs ++ ys) ≡ flat_map f xs ++ flat_map f ys
joined_append f [] ys = refl
joined_append f (x ∷ xs) ys =
    ap (λ zs. f x ++ zs) (joined_append f xs ys)
    ∙ sym (append_assoc (f x) (flat_map f xs) (flat_map f ys))

pub joined_push : {A B : Type 0} (f : A → List B) (xs : List A) (x : A) →
    flat_map f (xs ++ x ∷ []) ≡ flat_map f xs ++ f x
joined_push f xs x =
    joined_append f xs (x ∷ []) ∙ ap (λ zs. flat_map f xs ++ zs) (append-nil (f x))

pub joined_more : {A : Type 0} (f : ℕ → List A) (n : ℕ) →
    flat_map f (range_with_len 0 (n + 1)) ≡ flat_map f (range_with_len 0 n) ++ f n
joined_more f n = ap (flat_map f) (range_more n) ∙ joined_push f (range_with_len 0 n) n

-- what a loop that adds lists has added, one turn later
pub adds_list : {A : Type 0} (f : ℕ → List A) (old now new : List A) (n : ℕ) →
    now ≡ old ++ flat_map f (range_with_len 0 n) → new ≡ now ++ f n →
    new ≡ old ++ flat_map f (range_with_len 0 (n + 1))
adds_list f old now new n is pushed =
    pushed ∙ (ap (λ ys. ys ++ f n) is
    ∙ (append_assoc old (flat_map f (range_with_len 0 n)) (f n)
    ∙ ap (λ ys. old ++ ys) (sym (joined_more f n))))

-- what a loop that adds items has added, one turn later
pub adds_item : {A : Type 0} (f : ℕ → A) (old now new : List A) (x : A) (n : ℕ) →
    now ≡ old ++ map f (range_with_len 0 n) → new ≡ now ++ x ∷ [] → x ≡ f n →
    new ≡ old ++ map f (range_with_len 0 (n + 1))
adds_item f old now new x n is pushed at =
    pushed ∙ (ap (λ ys. ys ++ x ∷ []) is
    ∙ (append_assoc old (map f (range_with_len 0 n)) (x ∷ [])
    ∙ ap (λ ys. old ++ ys) (ap (λ y. map f (range_with_len 0 n) ++ y ∷ []) at
    ∙ sym (map-range_with_len_more f 0 n n (omega arith)))))
