-- States one after another, and the numbers that they use.
use Rattle.std.proofs.Common.{arith, ◌≡◌, ℕ, zero, suc, ◌+◌, ◌<◌, ◌≤◌, List, [], ◌∷◌, ◌++◌, append_assoc, Bool, true, false, not, cond, nat_lt, refl, sym, ◌∙◌, ap, subst, length, take, get_or, map}
use Rattle.std.specs.Prelude.{All, Option, None, Some, slice_get, unwrap_or, position}
use Rattle.std.specs.List.{cons_option, flat_map, position_or_len}
use Rattle.std.specs.Option.{option_to_list}
use Rattle.std.proofs.lemmas.Bool.{ltb-false}
use Rattle.std.proofs.lemmas.List.{append-nil, take_all, take_more, map-append}
use Rattle.std.proofs.lemmas.List.Elements.{All-cons, All-same, All-append, filter_map-append}
use Rattle.std.proofs.lemmas.List.Sums.{prefix_len-le-length}
use Rattle.std.proofs.lemmas.Grind.{flat_map-append}
use Rattle.std.proofs.lemmas.Option.{slice_get-get_or}
use Rattle.ux_base.specs.Distinct.{AreFirsts, GrowsBy}
use Rattle.ux_dawg.specs.declared.state.State.{State}
use Rattle.ux_dawg.specs.declared.state.Edge.{Edge}
use Rattle.ux_dawg.specs.Building.{bare}
use Rattle.ux_dawg.specs.Flat.{state_of}
use Rattle.ux_image.specs.Images.{numbers_in, lists_of}
use Rattle.ux_image.specs.declared.code.CodeList.{CodeList}

-- one element more, where there is one
pub take_next : {X : Type 0} (xs : List X) (i : ℕ) →
    take (i + 1) xs ≡ take i xs ++ option_to_list (slice_get xs i)
take_next {X} xs i = ap (λ n. take n xs) next ∙ by xs i
  where
    next : i + 1 ≡ suc i
    next = omega arith

    by : (ys : List X) (n : ℕ) → take (suc n) ys ≡ take n ys ++ option_to_list (slice_get ys n)
    by [] zero = refl
    by [] (suc n) = refl
    by (y ∷ ys) zero = refl
    by (y ∷ ys) (suc n) = ap (λ (l : List X). y ∷ l) (by ys n)

-- the number of one state
pub one_number : (state : State) → numbers_in (state ∷ []) ≡ option_to_list state.code
one_number state = by state.code
  where
    by : (code : Option ℕ) →
        numbers_in (record { code = code; edges = state.edges } ∷ []) ≡ option_to_list code
    by None = refl
    by (Some n) = refl

-- what is read of a state by its number
module _ (states : List State) (number : ℕ) (within : number < length states) (code : Option ℕ)
    (code_is : code ≡ (get_or states number bare).code) where
  -- its number is the one of the state that stands there
  pub number_at : option_to_list code ≡ numbers_in (option_to_list (slice_get states number))
  number_at =
      ap option_to_list code_is
      ∙ sym (one_number (get_or states number bare))
      ∙ ap (λ found. numbers_in (option_to_list found))
      (sym (slice_get-get_or states number bare within))

  module _ (edges : List Edge) (edges_is : edges ≡ (get_or states number bare).edges) where
    -- and with its edges it is that state
    state_at : state_of code edges ∷ [] ≡ option_to_list (slice_get states number)
    state_at =
        ap (λ (state : State). state ∷ [])
        (let same : state_of code edges ≡ get_or states number bare =
        λ j. record { code = code_is j; edges = edges_is j } in same)
        ∙ ap option_to_list (sym (slice_get-get_or states number bare within))

    -- its bytes
    pub bytes_at : (g : State → State) (bytes : State → List ℕ) (front new : List ℕ) →
        new ≡ front ++ bytes (g (state_of code edges)) →
        new ≡ front ++ flat_map bytes (map g (option_to_list (slice_get states number)))
    bytes_at g bytes front new is =
        is ∙ ap (λ (bs : List ℕ). front ++ bs)
        (sym (append-nil (bytes (g (state_of code edges))))
        ∙ ap (λ (l : List State). flat_map bytes (map g l)) state_at)

    -- and what holds of it
    pub all_at : (P : State → Type 0) (g : State → State) → P (g (state_of code edges)) →
        All P (map g (option_to_list (slice_get states number)))
    all_at P g holds =
        All-same P _ _ (ap (map g) (sym state_at))
        (All-cons P (g (state_of code edges)) [] holds (λ k d less. absurd (omega (arith, less))))

-- the numbers of one state more
pub firsts_more : (states : List State) (i : ℕ) (old new : List ℕ) →
    AreFirsts (numbers_in (take i states)) old →
    GrowsBy (numbers_in (option_to_list (slice_get states i))) old new →
    AreFirsts (numbers_in (take (i + 1) states)) new
firsts_more states i old new so_far grows =
    subst (λ (ns : List ℕ). AreFirsts ns new)
    (sym (ap numbers_in (take_next states i)
    ∙ filter_map-append (λ (s : State). s.code) (take i states)
    (option_to_list (slice_get states i))))
    (grows (numbers_in (take i states)) so_far)

-- the last state is the root
pub firsts_all : (states : List State) (i root : ℕ) (old new : List ℕ) → root ≤ i → i ≤ root →
    length states ≡ root + 1 → AreFirsts (numbers_in (take i states)) old →
    GrowsBy (numbers_in (option_to_list (slice_get states root))) old new →
    AreFirsts (numbers_in states) new
firsts_all states i root old new past within all so_far grows =
    let at : i ≡ root = omega arith in
    subst (λ (ss : List State). AreFirsts (numbers_in ss) new)
    (take_all (root + 1) states (omega arith))
    (firsts_more states root old new
    (subst (λ n. AreFirsts (numbers_in (take n states)) old) at so_far) grows)

-- the lists of one number more
pub lists_more : (lists : List CodeList) (order : List ℕ) (i : ℕ) (old new : List CodeList) →
    i < length order → old ≡ lists_of lists (take i order) →
    new ≡ old ++ option_to_list (slice_get lists (get_or order i 0)) →
    new ≡ lists_of lists (take (i + 1) order)
lists_more lists order i old new within so_far more =
    let found = slice_get lists (get_or order i 0) in
    more
    ∙ ap (λ (ls : List CodeList). ls ++ option_to_list found) so_far
    ∙ ap (λ (ls : List CodeList). lists_of lists (take i order) ++ ls) (sym (one found))
    ∙ sym (filter_map-append (λ n. slice_get lists n) (take i order) (get_or order i 0 ∷ []))
    ∙ ap (lists_of lists) (sym (take_more order i 0 within))
  where
    one : (found : Option CodeList) → cons_option found [] ≡ option_to_list found
    one None = refl
    one (Some list) = refl

-- a search's answer as a place
pub place_is : (p : ℕ → Bool) (xs : List ℕ) →
    unwrap_or (position p xs) (length xs) ≡ position_or_len p xs
place_is p xs = by (nat_lt (position_or_len p xs) (length xs)) refl
  where
    by : (b : Bool) → nat_lt (position_or_len p xs) (length xs) ≡ b →
        unwrap_or (cond (nat_lt (position_or_len p xs) (length xs)) (Some (position_or_len p xs))
        None) (length xs) ≡ position_or_len p xs
    by true e =
        ap (λ b. unwrap_or (cond b (Some (position_or_len p xs)) None) (length xs)) e
    by false e =
        let past = ltb-false (position_or_len p xs) (length xs) e in
        let most = prefix_len-le-length (λ x. not (p x)) xs in
        ap (λ b. unwrap_or (cond b (Some (position_or_len p xs)) None) (length xs)) e
        ∙ omega (arith, past, most)

-- the bytes of one item more
module _ {X Y : Type 0} (f : Y → List ℕ) (g : X → Y) (xs : List X) where
  pub bytes_more : (i : ℕ) (front old new : List ℕ) →
      old ≡ front ++ flat_map f (map g (take i xs)) →
      new ≡ old ++ flat_map f (map g (option_to_list (slice_get xs i))) →
      new ≡ front ++ flat_map f (map g (take (i + 1) xs))
  bytes_more i front old new so_far more =
      let here = option_to_list (slice_get xs i) in
      more
      ∙ ap (λ (bs : List ℕ). bs ++ flat_map f (map g here)) so_far
      ∙ append_assoc front (flat_map f (map g (take i xs))) (flat_map f (map g here))
      ∙ ap (λ (bs : List ℕ). front ++ bs)
      (sym (ap (λ (ys : List X). flat_map f (map g ys)) (take_next xs i)
      ∙ ap (flat_map f) (map-append g (take i xs) here)
      ∙ flat_map-append f (map g (take i xs)) (map g here)))

  -- the last one
  pub bytes_all : (i root : ℕ) (front old new : List ℕ) → root ≤ i → i ≤ root →
      length xs ≡ root + 1 → old ≡ front ++ flat_map f (map g (take i xs)) →
      new ≡ old ++ flat_map f (map g (option_to_list (slice_get xs root))) →
      new ≡ front ++ flat_map f (map g xs)
  bytes_all i root front old new past within all so_far more =
      let at : i ≡ root = omega arith in
      bytes_more root front old new
      (so_far ∙ ap (λ n. front ++ flat_map f (map g (take n xs))) at) more
      ∙ ap (λ (ys : List X). front ++ flat_map f (map g ys)) (take_all (root + 1) xs (omega arith))

-- what holds of each item, for one item more
module _ {X Y : Type 0} (P : Y → Type 0) (g : X → Y) (xs : List X) where
  pub all_more : (i : ℕ) → All P (map g (take i xs)) →
      All P (map g (option_to_list (slice_get xs i))) → All P (map g (take (i + 1) xs))
  all_more i so_far more =
      let here = option_to_list (slice_get xs i) in
      All-same P _ _ (ap (map g) (take_next xs i) ∙ map-append g (take i xs) here)
      (All-append P (map g (take i xs)) (map g here) so_far more)

  -- the last one
  pub all_all : (i root : ℕ) → root ≤ i → i ≤ root → length xs ≡ root + 1 →
      All P (map g (take i xs)) → All P (map g (option_to_list (slice_get xs root))) →
      All P (map g xs)
  all_all i root past within all so_far more =
      let at : i ≡ root = omega arith in
      All-same P _ _ (sym (ap (map g) (take_all (root + 1) xs (omega arith))))
      (all_more root (subst (λ n. All P (map g (take n xs))) at so_far) more)
