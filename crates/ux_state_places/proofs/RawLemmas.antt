-- Places that are made one after another are those of the ways.
use Rattle.std.proofs.Common.{arith, ◌≡◌, ◌≢◌, ◌↔◌, ◌⊎◌, inl, inr, ℕ, zero, suc, ◌+◌, ◌<◌, ◌≤◌, List, [], ◌∷◌, ◌++◌, length, refl, sym, ap, subst, ◌∙◌, get_or, true, Bool}
use Rattle.std.specs.Prelude.{Contains, Some, slice_get, position}
use Rattle.std.specs.List.{list_any}
use Rattle.std.proofs.lemmas.List.{get_or_default}
use Rattle.std.proofs.lemmas.List.Folds.{list_any_at}
use Rattle.std.proofs.lemmas.List.Quantifiers.{position-Some}
use Rattle.std.proofs.lemmas.Option.{slice_get_cases, slice_get_within, slice_get_read, slice_get-get_or, get_or_from_slice_get}
use Rattle.ux_base.proofs.Lists.{less_or}
use Rattle.ux_base.proofs.OrderedLists.{place_of, slice_get-append_left}
use Rattle.ux_net.specs.declared.state.Edge.{Edge}
use Rattle.ux_net.specs.declared.state.State.{State}
use Rattle.ux_boxes.specs.declared.place.Place.{Place}
use Rattle.ux_boxes.specs.Places.{lines_in, targets_in, output_in_place}
use Rattle.ux_admission.specs.Gains.{Gains, SoOfOne}
use Rattle.ux_admission.proofs.GainsLemmas.{gains_then, gains_all}
use Rattle.ux_state_places.specs.declared.arrival.Arrival.{Arrival}
use Rattle.ux_state_places.specs.declared.arrival.Kind.{Kind}
use Rattle.ux_state_places.specs.Arrivals.{hub_arrival, arrival_at, place_number, AreArrivals, AreFirsts, AreRawPlaces, AreStandingFor, AreHubs, IsTargetOf}
use Rattle.ux_state_places.specs.RawPlaces.{with_second, HaveEdges, IsHubPlace, IsEdgePlace, IsFinalPlace, IsLedTo, IsPlaceFor, AreMade, IsPlaceAt, IsStateAt}

-- there is one more
pub length-second : {A : Type 0} (xs : List A) (x : A) → length (with_second x xs) ≡ length xs + 1
length-second [] x = refl
length-second (y ∷ ys) x = omega arith

-- none is made
pub made_none : {A : Type 0} (IsMade : ℕ → A → Type 0) → AreMade IsMade 0 []
made_none IsMade = record {
  len = refl;
  each = λ k y at. let low = slice_get_within [] k y at in absurd (omega (arith, low));
}

-- the next one is made
pub made_next : {A : Type 0} (IsMade : ℕ → A → Type 0) (count : ℕ) (old new : List A) (item : A) →
    AreMade IsMade count old → new ≡ old ++ item ∷ [] → IsMade count item →
    AreMade IsMade (count + 1) new
made_next {A} IsMade count old new item made is so =
    subst (λ (xs : List A). AreMade IsMade (count + 1) xs) (sym is) (record {
      len = let n = made.len in let m = longer old item in omega (arith, n, m);
      each = λ k y at. elim (less_or k count) [
        | inl low ↦
            let n = made.len in
            made.each k y (sym (slice_get-append_left old (item ∷ []) k (omega (arith, low, n))) ∙ at)
        | inr past ↦
            let n = made.len in
            let m = longer old item in
            let within = slice_get_within (old ++ item ∷ []) k y at in
            let e : count ≡ k = omega (arith, past, n, m, within) in
            let there : Some y ≡ Some item =
            sym at ∙ (ap (λ j. slice_get (old ++ item ∷ []) j) (sym e ∙ sym n) ∙ last old item) in
            let same : item ≡ y = cc in
            subst (λ j. IsMade j y) e (subst (λ z. IsMade count z) same so)
      ];
    })
  where
    longer : (xs : List A) (x : A) → length (xs ++ x ∷ []) ≡ length xs + 1
    longer [] x = refl
    longer (y ∷ ys) x = let r = longer ys x in omega (arith, r)

    last : (xs : List A) (x : A) → slice_get (xs ++ x ∷ []) (length xs) ≡ Some x
    last [] x = refl
    last (y ∷ ys) x = last ys x

-- all are made
pub made_done : {A : Type 0} (IsMade : ℕ → A → Type 0) (count all : ℕ) (made : List A) →
    count ≤ all → all ≤ count → AreMade IsMade count made → AreMade IsMade all made
made_done {A} IsMade count all made most least are =
    let e : count ≡ all = omega (arith, most, least) in
    subst (λ n. AreMade IsMade n made) e are

-- what stands at the place of a way, where the second is put between
pub second_at : {A : Type 0} (arrivals : List Arrival) (made : List A) (second : A) (p : ℕ)
    (x : Arrival) → length made ≡ length arrivals → arrival_at arrivals p ≡ Some x →
    (k : ℕ) × (y : A) × (slice_get arrivals k ≡ Some x) × (slice_get made k ≡ Some y)
    × (slice_get (with_second second made) p ≡ Some y)
second_at arrivals [] second zero x len at =
    let low = slice_get_within arrivals 0 x at in absurd (omega (arith, low, len))
second_at arrivals (y ∷ ys) second zero x len at = (0, y, at, refl, refl)
second_at arrivals made second (suc zero) x len at = absurd cc
second_at arrivals [] second (suc (suc n)) x len at =
    let low = slice_get_within arrivals (suc n) x at in absurd (omega (arith, low, len))
second_at arrivals (y ∷ ys) second (suc (suc n)) x len at =
    let low = slice_get_within arrivals (suc n) x at in
    let e = slice_get-get_or ys n y (omega (arith, low, len)) in
    (suc n, get_or ys n y, at, e, e)

-- what stands in the longer list is the second or was made
pub second_from : {A : Type 0} (made : List A) (second : A) (p : ℕ) (y : A) →
    slice_get (with_second second made) p ≡ Some y →
    (second ≡ y) ⊎ ((k : ℕ) × (slice_get made k ≡ Some y))
second_from [] second zero y at = inl (cc)
second_from [] second (suc p) y at =
    let low = slice_get_within (second ∷ []) (suc p) y at in absurd (omega (arith, low))
second_from (z ∷ zs) second zero y at = inr (0, at)
second_from (z ∷ zs) second (suc zero) y at = inl (cc)
second_from (z ∷ zs) second (suc (suc n)) y at = inr (suc n, at)

-- the second stands behind the first
second_there : {A : Type 0} (made : List A) (second : A) → 0 < length made →
    slice_get (with_second second made) 1 ≡ Some second
second_there [] second some = absurd (omega (arith, some))
second_there (y ∷ ys) second some = refl

-- the places of the ways, with the end between
pub raw_made : (states : List State) (kinds : List Kind) (arrivals : List Arrival)
    (made : List Place) (end : Place) → AreArrivals states kinds arrivals →
    AreMade (IsPlaceAt states kinds arrivals) (length arrivals) made →
    end.output ≡ [] → end.lines ≡ [] → end.targets ≡ [] →
    AreRawPlaces states kinds arrivals (with_second end made)
raw_made states kinds arrivals made end are of no_output no_lines no_targets =
    let places : List Place = with_second end made in
    let first = slice_get_within arrivals 0 (hub_arrival kinds 0) are.start in
    let len = of.len in
    let there = second_there made end (omega (arith, first, len)) in
    record {
      len = length-second made end ∙ ap (λ n. n + 1) of.len;
      quiet = λ p. elim (slice_get_cases places p).1 [
        | inl (y, low, at, same) ↦ ap output_in_place at ∙ quiet p y at
        | inr (past, at) ↦ ap output_in_place at
      ];
      bare = ap lines_in there ∙ no_lines;
      last = ap targets_in there ∙ no_targets;
      lines = λ p x at.
          let s = second_at arrivals made end p x of.len at in
          ap lines_in s.4 ∙ (of.each s.0 s.1 s.3 x s.2).lines;
      targets = λ p q x at.
          let s = second_at arrivals made end p x of.len at in
          subst (λ (l : List ℕ). Contains l q ↔ IsTargetOf states kinds arrivals x q)
          (sym (ap targets_in s.4)) ((of.each s.0 s.1 s.3 x s.2).targets q);
    }
  where
    quiet : (p : ℕ) (y : Place) → slice_get (with_second end made) p ≡ Some y → y.output ≡ []
    quiet p y at = elim (second_from made end p y at) [
      | inl e ↦ subst (λ (place : Place). place.output ≡ []) e no_output
      | inr (k, there) ↦
          let low = slice_get_within made k y there in
          let len = of.len in
          let x = get_or arrivals k (hub_arrival kinds 0) in
          (of.each k y there x (slice_get-get_or arrivals k (hub_arrival kinds 0)
          (omega (arith, low, len)))).quiet
    ]

-- the states of the ways, with that of the end between
pub standing_made : (arrivals : List Arrival) (made : List ℕ) →
    AreMade (IsStateAt arrivals) (length arrivals) made →
    AreStandingFor arrivals (with_second 0 made)
standing_made arrivals made of = record {
  len = length-second made 0 ∙ ap (λ n. n + 1) of.len;
  last = second_zero made;
  state = λ p x at.
      let s = second_at arrivals made 0 p x of.len at in
      get_or_from_slice_get (with_second 0 made) p s.1 0 s.4 ∙ of.each s.0 s.1 s.3 x s.2;
}
  where
    second_zero : (row : List ℕ) → get_or (with_second 0 row) 1 0 ≡ 0
    second_zero [] = refl
    second_zero (n ∷ ns) = refl

-- the hubs of the states
pub hubs_made : (kinds : List Kind) (arrivals : List Arrival) (row : List ℕ) →
    AreMade (IsHubPlace kinds arrivals) (length kinds) row → AreHubs kinds arrivals row
hubs_made kinds arrivals row of = record {
  len = of.len;
  hub = λ n low.
      let len = of.len in
      of.each n (get_or row n 0) (slice_get-get_or row n 0 (omega (arith, low, len)));
}

-- the number of a way is that of its place
pub numbered : (arrivals : List Arrival) (k : ℕ) (x : Arrival) → slice_get arrivals k ≡ Some x →
    arrival_at arrivals (place_number k) ≡ Some x
numbered arrivals zero x at = at
numbered arrivals (suc n) x at = at

-- another way than that into the hub leads to the hub
pub other_targets : (states : List State) (kinds : List Kind) (arrivals : List Arrival)
    (x : Arrival) (q : ℕ) → x ≢ hub_arrival kinds x.state →
    IsHubPlace kinds arrivals x.state q ↔ IsTargetOf states kinds arrivals x q
other_targets states kinds arrivals x q apart = (
  λ h. inr (apart, h),
  λ h. elim h [
    | inl hub ↦ absurd (apart hub.0)
    | inr leads ↦ leads.1
  ],
)

-- the number of the way into a hub is that of the hub
pub hub_numbered : (kinds : List Kind) (arrivals : List Arrival) (firsts : List ℕ)
    (n first place : ℕ) → AreFirsts kinds arrivals firsts → n < length firsts →
    first ≡ get_or firsts n first → place ≡ place_number first →
    IsHubPlace kinds arrivals n place
hub_numbered kinds arrivals firsts n first place are low at is =
    let len = are.len in
    subst (λ p. IsHubPlace kinds arrivals n p) (sym is)
    (subst (λ k. IsHubPlace kinds arrivals n (place_number k))
    (sym (at ∙ get_or_default firsts n first 0 low))
    (numbered arrivals (get_or firsts n 0) (hub_arrival kinds n)
    (are.at n (omega (arith, low, len)))))

-- it is that of a way
pub first_below : (kinds : List Kind) (arrivals : List Arrival) (firsts : List ℕ) (n first : ℕ) →
    AreFirsts kinds arrivals firsts → n < length firsts → first ≡ get_or firsts n first →
    first < length arrivals
first_below kinds arrivals firsts n first are low at =
    let len = are.len in
    let within = slice_get_within arrivals (get_or firsts n 0) (hub_arrival kinds n)
    (are.at n (omega (arith, low, len))) in
    subst (λ k. k < length arrivals) (sym (at ∙ get_or_default firsts n first 0 low)) within

-- the number of the hub of a way's state is that of the way, where it is that into the hub
pub first_found : (kinds : List Kind) (arrivals : List Arrival) (firsts : List ℕ) (x : Arrival)
    (first : ℕ) → AreFirsts kinds arrivals firsts → x ≡ hub_arrival kinds x.state →
    slice_get firsts x.state ≡ Some first → slice_get arrivals first ≡ Some x
first_found kinds arrivals firsts x first are is at =
    let low = slice_get_within firsts x.state first at in
    let len = are.len in
    subst (λ k. slice_get arrivals k ≡ Some x) (get_or_from_slice_get firsts x.state first 0 at)
    (are.at x.state (omega (arith, low, len)) ∙ ap (λ (y : Arrival). Some y) (sym is))

-- an item that is there is found at its number
module _ {T : Type 0} (eq : T → T → Bool) (exact : (a b : T) → (eq a b ≡ true) ↔ (a ≡ b)) where
  pub found_at : (keys : List T) (x : T) (i : ℕ) → position (eq x) keys ≡ Some i →
      slice_get keys i ≡ Some x
  found_at keys x i found =
      let at = position-Some (eq x) keys i x found in
      slice_get_read keys (length keys) i x refl at.0 ((exact x (get_or keys i x)).0 at.1)

  pub found_there : (keys : List T) (x : T) → Contains keys x → list_any (eq x) keys ≡ true
  found_there keys x (i, low, is) =
      list_any_at (eq x) keys i x low ((exact x (get_or keys i x)).1 (sym is))

-- the end and then the edges are all that a hub leads to
pub led_to : (arrivals : List Arrival) (state : State) (edges : List Edge) (none now after : List ℕ) →
    none ≡ [] → edges ≡ state.edges → Gains none now (IsFinalPlace state.is_final) →
    Gains now after (SoOfOne edges (IsEdgePlace arrivals)) →
    (q : ℕ) → Contains after q ↔ IsLedTo arrivals state q
led_to arrivals state edges none now after is same first then =
    gains_all after (IsLedTo arrivals state)
    (gains_then [] now after (IsFinalPlace state.is_final)
    (SoOfOne state.edges (IsEdgePlace arrivals))
    (subst (λ (xs : List ℕ). Gains xs now (IsFinalPlace state.is_final)) is first)
    (subst (λ (xs : List Edge). Gains now after (SoOfOne xs (IsEdgePlace arrivals))) same then))

-- the places to which the hub of a state leads are its targets
pub hub_targets : (states : List State) (kinds : List Kind) (arrivals : List Arrival)
    (x : Arrival) (state : State) (q : ℕ) → x ≡ hub_arrival kinds x.state →
    x.state < length states → state ≡ get_or states x.state state →
    IsLedTo arrivals state q ↔ IsTargetOf states kinds arrivals x q
hub_targets states kinds arrivals x state q is low at =
    let there = slice_get_read states (length states) x.state state refl low at in (
      λ h. inl (is, (state, there, h)),
      λ h. elim h [
        | inl (hub, leads) ↦
            let same : Some leads.0 ≡ Some state = sym leads.1 ∙ there in
            let e : leads.0 ≡ state = cc in
            subst (λ (s : State). IsLedTo arrivals s q) e leads.2
        | inr other ↦ absurd (other.0 is)
      ],
    )

-- a way that is there leads into a state
pub way_inside : (states : List State) (kinds : List Kind) (arrivals : List Arrival) (x : Arrival) →
    AreArrivals states kinds arrivals → Contains arrivals x → x.state < length states
way_inside states kinds arrivals x are there =
    let at = place_of arrivals x there in are.inside at.0 x at.1

-- the ways along the edges of a state are there
pub have_edges : (states : List State) (kinds : List Kind) (arrivals : List Arrival) (n : ℕ)
    (state : State) → AreArrivals states kinds arrivals → n < length states →
    state ≡ get_or states n state → HaveEdges arrivals state.edges
have_edges states kinds arrivals n state are low at edge has =
    are.edges n state edge (slice_get_read states (length states) n state refl low at) has

-- the place of the way that stands here
pub place_here : (states : List State) (kinds : List Kind) (arrivals items : List Arrival) (k : ℕ)
    (d : Arrival) (place : Place) → items ≡ arrivals →
    IsPlaceFor states kinds arrivals (get_or items k d) place →
    IsPlaceAt states kinds arrivals k place
place_here states kinds arrivals items k d place same is x at =
    let e : get_or items k d ≡ x = ap (λ (xs : List Arrival). get_or xs k d) same
    ∙ get_or_from_slice_get arrivals k x d at in
    subst (λ (y : Arrival). IsPlaceFor states kinds arrivals y place) e is
