-- How sets and lists grow.
use Rattle.std.proofs.Common.{arith, ◌≡◌, ◌↔◌, ℕ, zero, suc, ◌+◌, ◌<◌, ◌≤◌, List, [], ◌∷◌, ◌++◌, ◌⊎◌, inl, inr, refl, sym, ap, subst, ◌∙◌, length, get_or, take, Bool, true, false, cond}
use Rattle.std.specs.Prelude.{Option, Some, None, slice_get, Contains, position}
use Rattle.std.specs.List.{list_any}
use Rattle.std.specs.Option.{is_some}
use Rattle.std.proofs.lemmas.List.Folds.{list_any_at}
use Rattle.std.proofs.lemmas.List.Quantifiers.{position-Some}
use Rattle.std.proofs.lemmas.List.{take_more, take_all}
use Rattle.std.proofs.lemmas.List.Elements.{Contains-append_left, Contains-push, Contains-push_cases}
use Rattle.std.proofs.lemmas.Option.{same_Some, slice_get_within, slice_get-get_or, get_or_from_slice_get}
use Rattle.indexmap.specs.IndexSet.{insert_key}
use Rattle.indexmap.proofs.CallerLemmas.{Contains-list_any}
use Rattle.ux_walk.specs.Links.{AreOnce}
use Rattle.ux_listing.specs.Sets.{Keeps, Adds, IsAdded}

module _ {A : Type 0} where
  pub nothing_in : {x : A} → (let none : List A = [] in Contains none x) → ⊥
  nothing_in h = absurd (omega (arith, h.1))

  -- what stands at a place is contained, and the other way round
  pub in_place : (xs : List A) (i : ℕ) (x : A) → slice_get xs i ≡ Some x → Contains xs x
  in_place xs i x h = (i, slice_get_within xs i x h, get_or_from_slice_get xs i x x h)

  pub place_of : (xs : List A) (x : A) → Contains xs x →
      (i : ℕ) × (i < length xs) × (slice_get xs i ≡ Some x)
  place_of xs x h = (h.0, h.1, slice_get-get_or xs h.0 x h.1 ∙ ap Some h.2)

  -- one more keeps the places
  keeps_push : (xs ys : List A) → Keeps xs (xs ++ ys)
  keeps_push [] ys i x h = cc
  keeps_push (z ∷ xs) ys zero x h = h
  keeps_push (z ∷ xs) ys (suc i) x h = keeps_push xs ys i x h

  -- what keeps its place stays
  pub still : (old new : List A) → Keeps old new → (x : A) → Contains old x → Contains new x
  still old new kept x h =
      let p = place_of old x h in in_place new p.0 x (kept p.0 x p.2)

  -- what stands at a place that was there, stood there
  pub was_at : (old new : List A) → Keeps old new → (i : ℕ) → i < length old → (x : A) →
      slice_get new i ≡ Some x → slice_get old i ≡ Some x
  was_at old new kept i within x at =
      let was = slice_get-get_or old i x within in
      was ∙ ap Some (same_Some (get_or old i x) x (sym (kept i (get_or old i x) was) ∙ at))

  -- an item at the end of a list
  pub added_last : (xs : List A) (x : A) → IsAdded xs (xs ++ x ∷ []) x
  added_last xs x = record {
    adds = record {
      only = λ w h. elim (Contains-push_cases xs x w h) [ inl o ↦ inl o | inr e ↦ inr (sym e) ];
      kept = keeps_push xs (x ∷ []);
    };
    has = Contains-push xs x;
  }

  module _ (eq : A → A → Bool) (same : (a b : A) → eq a b ≡ true → a ≡ b) where
    -- a key of a set, if it is new
    pub added_key : (now new : List A) (k : A) → new ≡ insert_key eq now k → IsAdded now new k
    added_key now new k made = by (list_any (eq k) now) refl
      where
        by : (b : Bool) → list_any (eq k) now ≡ b → IsAdded now new k
        by true e =
            let n : new ≡ now = made ∙ ap (λ c. cond c now (now ++ k ∷ [])) e in
            subst (λ (l : List A). IsAdded now l k) (sym n) (record {
              adds = record { only = λ w h. inl h; kept = λ i w h. h };
              has = Contains-list_any eq same now k e;
            })
        by false e =
            let n : new ≡ now ++ k ∷ [] = made ∙ ap (λ c. cond c now (now ++ k ∷ [])) e in
            subst (λ (l : List A). IsAdded now l k) (sym n) (added_last now k)

  -- nothing was added
  pub adds_none : {Told : A → Type 0} (old : List A) → Adds Told old old
  adds_none old = record { only = λ w h. inl h; kept = λ i w h. h }

  -- such as are wanted were added
  pub adds_as : {Told Now : A → Type 0} {old new : List A} → ((w : A) → Told w → Now w) →
      Adds Told old new → Adds Now old new
  adds_as more a = record {
    only = λ w h. elim (a.only w h) [ inl o ↦ inl o | inr t ↦ inr (more w t) ];
    kept = a.kept;
  }

  -- one after the other
  pub adds_both : {Told : A → Type 0} {old mid new : List A} → Adds Told old mid →
      Adds Told mid new → Adds Told old new
  adds_both a b = record {
    only = λ w h. elim (b.only w h) [ inl m ↦ a.only w m | inr t ↦ inr t ];
    kept = λ i w h. b.kept i w (a.kept i w h);
  }

  pub adds_item : {Told : A → Type 0} {old new : List A} {x : A} → IsAdded old new x → Told x →
      Adds Told old new
  adds_item {Told = Told} a told = adds_as (λ w e. subst Told (sym e) told) a.adds

  -- so far, and one more
  pub taken_cases : (xs : List A) (i : ℕ) (x y : A) → i < length xs → x ≡ get_or xs i x →
      Contains (take (i + 1) xs) y → Contains (take i xs) y ⊎ (y ≡ x)
  taken_cases xs i x y lt is h =
      let more : take (i + 1) xs ≡ take i xs ++ x ∷ [] = take_more xs i x lt
      ∙ ap (λ z. take i xs ++ z ∷ []) (sym is) in
      elim (Contains-push_cases (take i xs) x y (subst (λ (l : List A). Contains l y) more h)) [
        | inl o ↦ inl o
        | inr e ↦ inr (sym e)
      ]

  pub taken_before : (xs : List A) (i : ℕ) (x y : A) → i < length xs → x ≡ get_or xs i x →
      Contains (take i xs) y → Contains (take (i + 1) xs) y
  taken_before xs i x y lt is h =
      let more : take (i + 1) xs ≡ take i xs ++ x ∷ [] = take_more xs i x lt
      ∙ ap (λ z. take i xs ++ z ∷ []) (sym is) in
      subst (λ (l : List A). Contains l y) (sym more) (Contains-append_left (take i xs) (x ∷ []) y h)

  pub taken_itself : (xs : List A) (i : ℕ) (x : A) → i < length xs → x ≡ get_or xs i x →
      Contains (take (i + 1) xs) x
  taken_itself xs i x lt is =
      let more : take (i + 1) xs ≡ take i xs ++ x ∷ [] = take_more xs i x lt
      ∙ ap (λ z. take i xs ++ z ∷ []) (sym is) in
      subst (λ (l : List A). Contains l x) (sym more) (Contains-push (take i xs) x)

  pub taken_all : (xs : List A) (i : ℕ) → length xs ≤ i → take i xs ≡ xs
  taken_all xs i past = take_all i xs past

  pub taken_none : {y : A} (xs : List A) → Contains (take 0 xs) y → ⊥
  taken_none xs h = nothing_in h

-- the number of a key of a set
module _ {A : Type 0} (eq : A → A → Bool) (same : (a b : A) → eq a b ≡ true → a ≡ b)
    (itself : (a : A) → eq a a ≡ true) where
  found_at : (keys : List A) (x : A) (i : ℕ) → position (eq x) keys ≡ Some i →
      slice_get keys i ≡ Some x
  found_at keys x i found =
      let at = position-Some (eq x) keys i x found in
      slice_get-get_or keys i x at.0 ∙ ap Some (sym (same x (get_or keys i x) at.1))

  found_there : (keys : List A) (x : A) → Contains keys x → list_any (eq x) keys ≡ true
  found_there keys x (i, low, is) =
      list_any_at (eq x) keys i x low (subst (λ (y : A). eq x y ≡ true) (sym is) (itself x))

  pub numbered : (keys : List A) (x : A) (r : Option ℕ) → r ≡ position (eq x) keys →
      is_some r ≡ list_any (eq x) keys → AreOnce keys → (n : ℕ) →
      (r ≡ Some n) ↔ (slice_get keys n ≡ Some x)
  numbered keys x r is some once n = (
    λ e. found_at keys x n (sym is ∙ e),
    λ at. by r is (some ∙ found_there keys x (in_place keys n x at)) at,
  )
    where
      by : (o : Option ℕ) → o ≡ position (eq x) keys → is_some o ≡ true →
          slice_get keys n ≡ Some x → o ≡ Some n
      by None here on at = let no : false ≡ true = on in cc
      by (Some m) here on at = ap Some (once m n x (found_at keys x m (sym here)) at)

-- the items so far, and one more
module _ {A : Type 0} (items old mid new : List A) (i : ℕ) (item : A) (lt : i < length items)
    (is : item ≡ get_or items i item) where
  pub added_next : Adds (Contains (take i items)) old mid → IsAdded mid new item →
      Adds (Contains (take (i + 1) items)) old new
  added_next a b = adds_both (adds_as (λ w h. taken_before items i item w lt is h) a)
      (adds_item b (taken_itself items i item lt is))

module _ {A : Type 0} (items mid new : List A) (i : ℕ) (item : A) (lt : i < length items)
    (is : item ≡ get_or items i item) where
  pub has_next : ((x : A) → Contains (take i items) x → Contains mid x) → IsAdded mid new item →
      (x : A) → Contains (take (i + 1) items) x → Contains new x
  has_next before b x h = elim (taken_cases items i item x lt is h) [
    | inl o ↦ still mid new b.adds.kept x (before x o)
    | inr e ↦ subst (Contains new) (sym e) b.has
  ]
