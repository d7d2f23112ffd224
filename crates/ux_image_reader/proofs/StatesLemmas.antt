-- A state that was read joins those before it.
use Rattle.std.proofs.Common.{arith, ◌≡◌, ℕ, zero, suc, ◌+◌, ◌-◌, ◌*◌, ◌<◌, ◌≤◌, max, List, [], ◌∷◌, ◌++◌, inl, inr, refl, sym, ◌∙◌, ap, subst, length, take, drop, get_or, length-append}
use Rattle.std.specs.Prelude.{Option, Some, None, SomeIff}
use Rattle.std.proofs.lemmas.Grind.{flat_map-append}
use Rattle.std.proofs.lemmas.List.{append-nil, take-append-drop, take-append-le, take_all, take_more, length_push}
use Rattle.std.proofs.lemmas.Bool.{cases_lt}
use Rattle.std.proofs.lemmas.Option.{slice_get_within}
use Rattle.ux_dawg.specs.declared.state.Edge.{Edge}
use Rattle.ux_dawg.specs.declared.state.State.{State}
use Rattle.ux_dawg.proofs.PathLemmas.{get_pushed}
use Rattle.ux_image_reader.specs.Layout.{final_number, place_behind, written, written_all, written_edges}
use Rattle.ux_image_reader.specs.Tests.{limits_behind, used_by, AllPass, IsAlive, IsList, IsWhole, Pass}
use Rattle.ux_image_reader.specs.declared.cursor.Cursor.{Cursor}
use Rattle.ux_image_reader.specs.declared.error.ImageError.{ImageError}
use Rattle.ux_image_reader.specs.declared.error.ImageError.TheVariants.{NoMemory}
use Rattle.ux_image_reader.specs.declared.limits.Limits.{Limits}
use Rattle.ux_image_reader.specs.Reading.{numbers_left, Passes, ReadsEdges, ReadsStates, Stops, StopsStates}
use Rattle.ux_image_reader.proofs.EdgesLemmas.{edges_end, length-written_edges, passes_on}

-- numbers that pass begin with the number of a list
pub list_passes : (limits : Limits) (list : ℕ) (numbers : List ℕ) →
    Pass limits (list ∷ numbers) → IsList limits list
list_passes limits list [] pass = pass
list_passes limits list (many ∷ numbers) pass = pass.0

-- the number of a list, from which 1 was taken
pub final_number-checked_sub : (list : ℕ) (code : Option ℕ) → SomeIff code (1 ≤ list) (list - 1) →
    final_number code ≡ list
final_number-checked_sub list None none =
    elim (cases_lt 0 list) [ inl some ↦ absurd (none (omega (arith, some))) | inr none_is ↦ omega (arith, none_is) ]
final_number-checked_sub list (Some n) some =
    let one = some.0 in let is = some.1 in omega (arith, one, is)

pub written_all-push : (states : List State) (s : State) →
    written_all (states ++ s ∷ []) ≡ written_all states ++ written s
written_all-push states s =
    flat_map-append written states (s ∷ []) ∙ ap (λ (l : List ℕ). written_all states ++ l)
    (append-nil (written s))

pub used_by-push : (states : List State) (s : State) →
    used_by (states ++ s ∷ []) ≡ max (used_by states) (final_number s.code)
used_by-push [] s = omega arith
used_by-push (t ∷ states) s =
    let more = used_by-push states s in omega (arith, more)

-- one more state passes behind them
pub passes_push : (count lists : ℕ) (states : List State) (s : State) → AllPass count lists states →
    Pass (limits_behind count lists states) (written s) → AllPass count lists (states ++ s ∷ [])
passes_push count lists states s all pass i t at = elim (get_pushed states s i t at) [
  | inl old ↦ subst (λ (l : List State). Pass (limits_behind count lists l) (written t))
      (sym (take-append-le i states (s ∷ [])
      (let w = slice_get_within states i t old in omega (arith, w)))) (all i t old)
  | inr new ↦ subst (λ (l : List State). Pass (limits_behind count lists l) (written t))
      (sym (take-append-le i states (s ∷ []) (omega (arith, new.0)) ∙ take_all i states
      (omega (arith, new.0))))
      (subst (λ (u : State). Pass (limits_behind count lists states) (written u)) (sym new.1) pass)
]

pub length-written : (s : State) → length (written s) ≡ 2 + 2 * length s.edges
length-written s = let more = length-written_edges s.edges in omega (arith, more)

module _ (states : List State) (i : ℕ) (s : State) (within : i < length states)
    (is : s ≡ get_or states i s) where
  taken : take (i + 1) states ≡ take i states ++ s ∷ []
  taken = take_more states i s within ∙ ap (λ (t : State). take i states ++ t ∷ []) (sym is)

  -- the state after the first ones
  pub used_by-more : used_by (take (i + 1) states)
      ≡ max (used_by (take i states)) (final_number s.code)
  used_by-more = ap used_by taken ∙ used_by-push (take i states) s

  pub place_behind-more : place_behind (take (i + 1) states)
      ≡ place_behind (take i states) + (8 + 8 * length s.edges)
  place_behind-more =
      let all = ap (length {A = ℕ}) (ap written_all taken ∙ written_all-push (take i states) s) in
      let sum = length-append (written_all (take i states)) (written s) in
      let long = length-written s in
      omega (arith, all, sum, long)

pub place_behind-take : (states : List State) (n : ℕ) →
    place_behind (take n states) ≤ place_behind states
place_behind-take states n =
    let all = ap (λ (l : List State). length (written_all l)) (take-append-drop n states) in
    let parts = ap (length {A = ℕ}) (flat_map-append written (take n states) (drop n states)) in
    let sum = length-append (written_all (take n states)) (written_all (drop n states)) in
    omega (arith, all, parts, sum)

-- no state has a higher list than all use
pub final_number-le : (states : List State) (i : ℕ) (s : State) → i < length states →
    s ≡ get_or states i s → final_number s.code ≤ used_by states
final_number-le [] i s less is = absurd (omega (arith, less))
final_number-le (t ∷ states) zero s less is =
    let same = ap (λ (u : State). final_number u.code) is in omega (arith, same)
final_number-le (t ∷ states) (suc i) s less is =
    let low = final_number-le states i s (omega (arith, less)) is in omega (arith, low)

-- a state of these edges passes
pub state_passes : (limits : Limits) (list many : ℕ) (code : Option ℕ) (old new : Cursor)
    (edges : List Edge) → IsList limits list → IsAlive limits list many →
    SomeIff code (1 ≤ list) (list - 1) → ReadsEdges limits.number many old new edges →
    Pass limits (final_number code ∷ (length edges ∷ written_edges edges))
state_passes limits list many code old new edges is alive some reads =
    let same = final_number-checked_sub list code some in
    let are = reads.many_are in (
      subst (IsList limits) (sym same) is,
      λ none no_edge. alive (sym same ∙ none) (sym are ∙ no_edge),
      edges_end limits.number edges reads.passed (length edges) refl,
    )

-- the states that were read, and what the next one is tested against
module _ (count lists i used : ℕ) (old mid : Cursor) (states : List State)
    (reads : ReadsStates count lists i old mid states) (used_are : used ≡ used_by states) where
  here : Limits
  here = record { count = count; lists = lists; number = i; used = used }

  limits_are : here ≡ limits_behind count lists states
  unfolding here
  limits_are =
      λ j. record { count = count; lists = lists; number = sym reads.many_are j; used = used_are j }

  -- the state behind them isn't read
  pub states_stop : (error : ImageError) → i < count →
      Stops (Pass (record { count = count; lists = lists; number = i; used = used })
      (numbers_left mid)) (IsWhole (numbers_left mid)) mid.place error →
      StopsStates count lists old error
  unfolding here
  states_stop error less stops = record {
    before = states;
    rest = numbers_left mid;
    numbers = reads.read.past;
    passed = reads.passed;
    fewer = let are = reads.many_are in omega (arith, are, less);
    stops = subst (λ place. Stops (Pass (limits_behind count lists states) (numbers_left mid))
        (IsWhole (numbers_left mid)) place error) reads.read.place
        (subst (λ (limits : Limits). Stops (Pass limits (numbers_left mid))
        (IsWhole (numbers_left mid)) mid.place error) limits_are stops);
  }

  -- memory may run out there
  pub memory_stops : i < count → StopsStates count lists old NoMemory
  memory_stops less = record {
    before = states;
    rest = numbers_left mid;
    numbers = reads.read.past;
    passed = reads.passed;
    fewer = let are = reads.many_are in omega (arith, are, less);
    stops = tt;
  }

  -- the state behind them is read
  pub states_more : (new : Cursor) (s : State) (more : List State) (more_used : ℕ) →
      Passes mid new (written s) →
      Pass (record { count = count; lists = lists; number = i; used = used }) (written s) →
      more ≡ states ++ s ∷ [] → more_used ≡ max used (final_number s.code) →
      ReadsStates count lists (i + 1) old new more × (more_used ≡ used_by more)
  unfolding here
  states_more new s more more_used moves pass is used_is =
      subst (λ (l : List State). ReadsStates count lists (i + 1) old new l × (more_used ≡ used_by l))
      (sym is) (
        record {
          read = subst (Passes old new) (sym (written_all-push states s))
              (passes_on old mid new (written_all states) (written s) reads.read moves);
          many_are = let are = reads.many_are in let long = length_push states s in
              omega (arith, are, long);
          passed = passes_push count lists states s reads.passed
              (subst (λ (limits : Limits). Pass limits (written s)) limits_are pass);
        },
        used_is ∙ ap (λ n. max n (final_number s.code)) used_are ∙ sym (used_by-push states s),
      )
