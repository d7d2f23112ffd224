-- The front of a file from its parts: the magic, the two counts and the states.
use Rattle.std.proofs.Common.{arith, ◌≡◌, ℕ, suc, ◌+◌, ◌<◌, ◌≤◌, min, List, [], ◌∷◌, ◌⊎◌, true, false, inl, inr, refl, sym, ◌∙◌, ap, subst, length, take, get_or, nat_eq, true≢false}
use Rattle.std.specs.Prelude.{Some, slice_get}
use Rattle.std.specs.Bool.{Decides}
use Rattle.std.proofs.lemmas.Bool.Decides.{Decides-eqb}
use Rattle.std.proofs.lemmas.List.{append-nil, get_or-map, length-map, length-take, length-take-le, take_min}
use Rattle.std.proofs.lemmas.Option.{slice_get_within}
use lib.Pointwise.{pointwise, pointwise_decides}
use Rattle.ux_dawg.specs.declared.state.Edge.{Edge}
use Rattle.ux_dawg.specs.declared.state.State.{State}
use Rattle.ux_dawg.specs.Paths.{AreStates, IsFit}
use Rattle.ux_dawg.proofs.FitLemmas.{ascending_from_each}
use Rattle.ux_image_reader.specs.declared.cursor.Cursor.{Cursor}
use Rattle.ux_image_reader.specs.declared.error.ImageError.{ImageError}
use Rattle.ux_image_reader.specs.declared.error.ImageError.TheVariants.{BadMagic, Short, BadState, BadCode, Trailing, TooMany, NoMemory}
use Rattle.ux_image_reader.specs.declared.front.Front.{Front}
use Rattle.ux_image_reader.specs.declared.front.Version.{Version}
use Rattle.ux_image_reader.specs.declared.front.Version.TheVariants.{One, Two}
use Rattle.ux_image_reader.specs.Layout.{final_number, magic_of, numbers_behind, place_behind, BeginsMagic, HasMagic}
use Rattle.ux_image_reader.specs.Tests.{limits_behind, used_by, AllPass, Pass}
use Rattle.ux_image_reader.specs.Fronts.{before_count, before_lists, by_itself, in_state, misplaced, no_state, unused_list, Begins, HasBadState, IsFrontOf, IsMisplaced, RefusesFront}
use Rattle.ux_image_reader.specs.Reading.{numbers_left, ArePassed, AreTogether, Passes, ReadsStates, RefusesTogether, StopsStates}
use Rattle.ux_image_reader.proofs.EdgesLemmas.{edges_back}

-- edges that pass make a state fit
edges_fit : (n : ℕ) (s : State) → ArePassed n s.edges → IsFit n s
edges_fit n s pass = record {
  ascending = ascending_from_each s.edges (λ k d less.
      let long = length-map s.edges (λ (e : Edge). e.letter) in
      let up = pass.ascending k (omega (arith, long, less)) in
      let here = get_or-map (λ (e : Edge). e.letter) s.edges k d 0 (omega (arith, less)) in
      let next = get_or-map (λ (e : Edge). e.letter) s.edges (k + 1) d 0 less in
      omega (arith, up, here, next));
  within = λ e has. below e has.0 has.1 has.2;
}
  where
    below : (e : Edge) (k : ℕ) → k < length s.edges → get_or s.edges k e ≡ e → e.target < n
    below e k less is =
        let long = length-map s.edges (λ (d : Edge). d.target) in
        let low = pass.below k 0 (omega (arith, long, less)) in
        let here = get_or-map (λ (d : Edge). d.target) s.edges k e 0 less in
        let same = ap (λ (d : Edge). d.target) is in
        omega (arith, low, here, same)

-- states that pass are fit for an automaton
pub states_fit : (count lists : ℕ) (states : List State) → AllPass count lists states →
    AreStates states
states_fit count lists states all i s at =
    let within = slice_get_within states i s at in
    let pass = edges_back (length (take i states)) s.edges []
    (subst (λ (l : List ℕ). Pass (limits_behind count lists (take i states))
    (final_number s.code ∷ (length s.edges ∷ l))) (sym (append-nil _)) (all i s at)).2 in
    edges_fit i s (subst (λ n. ArePassed n s.edges)
    (length-take-le i states (omega (arith, within))) pass)

-- and use no more lists than there are
used_few : (lists : ℕ) (states : List State) →
    ((i : ℕ) (s : State) → slice_get states i ≡ Some s → final_number s.code ≤ lists) →
    used_by states ≤ lists
used_few lists [] each = omega arith
used_few lists (s ∷ states) each =
    let here = each 0 s refl in
    let more = used_few lists states (λ i t at. each (suc i) t at) in
    omega (arith, here, more)

pub used_by-le : (count lists : ℕ) (states : List State) → AllPass count lists states →
    used_by states ≤ lists
used_by-le count lists states all =
    used_few lists states (λ i s at. (all i s at).0.below)

-- a fault among others is one of a state
pub misplaced_within : (states : List State) (number : ℕ) → IsMisplaced states number →
    number < length states
misplaced_within states number (inl root) = let r = root.root in omega (arith, r)
misplaced_within states number (inr (inl equal)) =
    slice_get_within states number equal.state equal.stands
misplaced_within states number (inr (inr numbered)) = numbered.within

module _ (bytes : List ℕ) (version : Version) (magic : HasMagic version bytes) where
  -- no count of states
  pub short_count : (error : ImageError) → (error ≡ Short) × (numbers_behind bytes ≡ []) →
      RefusesFront bytes error
  short_count error h = subst (RefusesFront bytes) (sym h.0) (before_count version magic h.1)

  -- the count of states is 0
  pub zero_count : (count : ℕ) (rest : List ℕ) → count ≡ 0 →
      numbers_behind bytes ≡ count ∷ rest → HasBadState bytes 8
  zero_count count rest none is =
      no_state version rest magic (is ∙ ap (λ n. n ∷ rest) none) refl

  -- no count of lists
  pub short_lists : (error : ImageError) (count : ℕ) (rest : List ℕ) → (count ≡ 0 → ⊥) →
      numbers_behind bytes ≡ count ∷ rest → (error ≡ Short) × (rest ≡ []) → RefusesFront bytes error
  short_lists error count rest some is h =
      subst (RefusesFront bytes) (sym h.0)
      (before_lists version count magic (is ∙ ap (λ (l : List ℕ). count ∷ l) h.1)
      (omega (arith, some)))

  module _ (count lists : ℕ) (start mid cursor : Cursor) (starts : start.place ≡ 8)
      (begins_there : numbers_behind bytes ≡ numbers_left start)
      (first : Passes start mid (count ∷ [])) (second : Passes mid cursor (lists ∷ [])) where
    counts : numbers_behind bytes ≡ count ∷ (lists ∷ numbers_left cursor)
    counts = begins_there ∙ first.past ∙ ap (λ (l : List ℕ). count ∷ l) second.past

    place : cursor.place ≡ 16
    place = let one = first.place in let two = second.place in omega (arith, starts, one, two)

    -- a state by itself
    pub states_refused : (error : ImageError) → StopsStates count lists cursor error →
        (error ≡ NoMemory) ⊎ RefusesFront bytes error
    states_refused BadMagic stops = absurd stops.stops
    states_refused Short stops = inr (in_state version count lists stops.before stops.rest
        (record {
          magic = magic;
          numbers = counts ∙ ap (λ (l : List ℕ). count ∷ (lists ∷ l)) stops.numbers;
          passed = stops.passed;
        }) stops.fewer stops.stops.0 stops.stops.1)
    states_refused (BadState offset) stops = inr (by_itself version count lists stops.before
        stops.rest
        (record {
          magic = magic;
          numbers = counts ∙ ap (λ (l : List ℕ). count ∷ (lists ∷ l)) stops.numbers;
          passed = stops.passed;
        }) stops.fewer stops.stops.0
        (let at = stops.stops.1 in let p = place in omega (arith, at, p)))
    states_refused (BadCode number) stops = absurd stops.stops
    states_refused Trailing stops = absurd stops.stops
    states_refused TooMany stops = absurd stops.stops
    states_refused NoMemory stops = inl refl

    module _ (new : Cursor) (states : List State)
        (reads : ReadsStates count lists count cursor new states) (some : count ≡ 0 → ⊥) where
      pub begins : Begins bytes version (length states) lists states (numbers_left new)
      begins = record {
        magic = magic;
        numbers = counts ∙ ap (λ n. n ∷ (lists ∷ numbers_left cursor)) (sym reads.many_are)
            ∙ ap (λ (l : List ℕ). length states ∷ (lists ∷ l)) reads.read.past;
        passed = subst (λ n. AllPass n lists states) (sym reads.many_are) reads.passed;
      }

      pub some_are : 0 < length states
      some_are = let are = reads.many_are in omega (arith, are, some)

      -- the place that was reached
      pub place_is : new.place ≡ place_behind states
      place_is = let h = reads.read.place in let p = place in omega (arith, h, p)

      -- faults among the states
      pub together_refused : (error : ImageError) → RefusesTogether lists states error →
          (error ≡ NoMemory) ⊎ RefusesFront bytes error
      together_refused BadMagic h = absurd h
      together_refused Short h = absurd h
      together_refused (BadState offset) (inl h) = inr (misplaced version lists states
          (numbers_left new) h.number begins some_are h.first.0 h.first.1 h.is)
      together_refused (BadState offset) (inr h) = inr (unused_list version lists states
          (numbers_left new) begins some_are h.none h.fewer h.is)
      together_refused (BadCode number) h = absurd h
      together_refused Trailing h = absurd h
      together_refused TooMany h = absurd h
      together_refused NoMemory h = inl refl

      -- a front
      pub has_front : (front : Front) → front.version ≡ version → front.states ≡ states →
          front.lists ≡ lists → front.end ≡ new.place → AreTogether lists states →
          IsFrontOf bytes front
      has_front front v s l e together =
          subst (IsFrontOf bytes)
          (let is : record { version = version; states = states; lists = lists; end = new.place }
          ≡ front = λ j. record {
            version = sym v j;
            states = sym s j;
            lists = sym l j;
            end = sym e j;
          } in is)
          (record {
            rest = numbers_left new;
            begins = begins;
            accepted = record {
              some = some_are;
              passed = begins.passed;
              root = λ m h. together.none m (inl h);
              once = λ m h. together.none m (inr (inl h));
              numbered = λ m h. together.none m (inr (inr h));
              used = together.used;
            };
            place = place_is;
          })

-- what is there of the first eight bytes
module _ (bytes front : List ℕ) (n : ℕ) (n_is : n ≡ min (length bytes) 8)
    (front_is : front ≡ take n bytes) where
  front_first : front ≡ take 8 bytes
  front_first =
      front_is ∙ ap (λ k. take k bytes) (let e : n ≡ min 8 (length bytes) = omega (arith, n_is) in e)
      ∙ take_min 8 bytes

  -- there are fewer than eight where they are
  pub few_bytes : length front < 8 → length bytes < 8
  few_bytes short =
      let l = ap (length {A = ℕ}) front_is in let t = length-take n bytes in
      omega (arith, short, l, t, n_is)

  module _ (magic : List ℕ) (long : length magic ≡ 8) where
    magic_first : take (length front) magic ≡ take (length bytes) magic
    magic_first =
        ap (λ k. take k magic)
        (let l = ap (length {A = ℕ}) front_is in let t = length-take n bytes in
        let e : length front ≡ min (length bytes) (length magic) =
        omega (arith, l, t, n_is, long) in e)
        ∙ take_min (length bytes) magic

    decides : Decides (pointwise nat_eq front (take (length front) magic))
        (front ≡ take (length front) magic)
    decides = pointwise_decides Decides-eqb front (take (length front) magic)

    -- they begin a magic where they are its front
    pub begins_from : true ≡ pointwise nat_eq front (take (length front) magic) →
        take 8 bytes ≡ take (length bytes) magic
    begins_from passes = sym front_first ∙ decides.0 (sym passes) ∙ magic_first

    begins_not : false ≡ pointwise nat_eq front (take (length front) magic) →
        take 8 bytes ≡ take (length bytes) magic → ⊥
    begins_not fails same =
        true≢false (sym (decides.1 (front_first ∙ same ∙ sym magic_first)) ∙ sym fails)

  -- and begin none where they are the front of neither
  pub begins_neither :
      false ≡ pointwise nat_eq front (take (length front) (magic_of One)) →
      false ≡ pointwise nat_eq front (take (length front) (magic_of Two)) → BeginsMagic bytes → ⊥
  begins_neither not_one not_two begins = by begins.0 begins.1
    where
      by : (version : Version) → take 8 bytes ≡ take (length bytes) (magic_of version) → ⊥
      by One same = begins_not (magic_of One) refl not_one same
      by Two same = begins_not (magic_of Two) refl not_two same
