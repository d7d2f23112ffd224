-- The links in order, and where those of a state begin.
use Rattle.std.proofs.Common.{arith, ◌≡◌, ℕ, ◌+◌, ◌-◌, ◌<◌, ◌≤◌, ◌↔◌, inl, inr, List, [], ◌∷◌, ◌++◌, refl, sym, ap, subst, ◌∙◌, length, length-append, length-drop, take, drop, get_or, map, false}
use Rattle.std.specs.Prelude.{Contains}
use Rattle.std.specs.Ordering.{nat_cmp, ordering_then, is_lt}
use Rattle.std.specs.declared.cmp.Ordering.{Ordering}
use Rattle.std.specs.declared.cmp.Ordering.TheVariants.{Less, Equal, Greater}
use Rattle.std.specs.List.Sorted.{IsNonDecreasingBy}
use Rattle.std.proofs.lemmas.Cmp.{ranked}
use Rattle.std.proofs.lemmas.List.{length-take, length-map, get_or-take, get_or-drop, get_or-map, get_or_past, get_or_push, get_or_append_left}
use Rattle.std.proofs.lemmas.List.Elements.{Contains-get_or}
use Rattle.ux_base.proofs.Lists.{less_or}
use Rattle.ux_subsets.specs.declared.automaton.Link.{Link}
use Rattle.ux_subsets.specs.declared.departures.Step.{Step}
use Rattle.ux_subsets.specs.Paths.{link, IsAscending}
use Rattle.ux_subsets.specs.Departures.{step_of, IsBefore, AreInOrder, IsStart, AreStarts, start_at, steps_from, AreByStart}
use Rattle.ux_subsets.proofs.SpellingLemmas.{same_link}
use Rattle.ux_subsets.proofs.SubsetsSpellLemmas.{below_or_last}

-- where a pair isn't less, its first number isn't, and the rest isn't if those are the same
pub not_less_first : (x y : ℕ) (rest : Ordering) → is_lt (ordering_then (nat_cmp x y) rest) ≡ false →
    (y ≤ x) × (x ≡ y → is_lt rest ≡ false)
not_less_first x y rest h = by (nat_cmp x y) refl h
  where
    by : (o : Ordering) → nat_cmp x y ≡ o → is_lt (ordering_then o rest) ≡ false → (y ≤ x) × (x ≡ y → is_lt rest ≡ false)
    by Less e h = absurd cc
    by Equal e h = let same : x ≡ y = ranked x y Equal (sym e) in (omega (arith, same), λ _. h)
    by Greater e h = let more : y < x = ranked x y Greater (sym e) in (omega (arith, more), λ same. absurd (omega (arith, more, same)))

not_less_last : (x y : ℕ) → is_lt (nat_cmp x y) ≡ false → y ≤ x
not_less_last x y h = by (nat_cmp x y) refl h
  where
    by : (o : Ordering) → nat_cmp x y ≡ o → is_lt o ≡ false → y ≤ x
    by Less e h = absurd cc
    by Equal e h = let same : x ≡ y = ranked x y Equal (sym e) in omega (arith, same)
    by Greater e h = let more : y < x = ranked x y Greater (sym e) in omega (arith, more)

-- a step that isn't less isn't before
pub not_less_step : (x y : Step) → is_lt (ordering_then (nat_cmp x.reading y.reading) (nat_cmp x.to y.to)) ≡ false → IsBefore y x
not_less_step x y h =
    let e = not_less_first x.reading y.reading (nat_cmp x.to y.to) h in
    record { reading = e.0; to = λ same. not_less_last x.to y.to (e.1 (sym same)) }

-- where the link at the place isn't below the state, none from there on is
pub is_start : (sorted : List Link) → IsNonDecreasingBy (λ (d : Link). d.from) sorted → (state start : ℕ) → start ≤ length sorted →
    ((k : ℕ) (d : Link) → k < start → (get_or sorted k d).from < state) →
    (start < length sorted → (d : Link) → state ≤ (get_or sorted start d).from) → IsStart sorted state start
is_start sorted up state start le before at = record {
  within = le;
  before = before;
  after = λ k d from lt. let a = at (omega (arith, from, lt)) d in let b = up start k d from lt in omega (arith, a, b);
}

-- one start more
pub starts_more : (sorted : List Link) (state place : ℕ) (starts starts' : List ℕ) → starts' ≡ starts ++ place ∷ [] → IsStart sorted state place → AreStarts sorted state starts → AreStarts sorted (state + 1) starts'
starts_more sorted state place starts starts' pushed is a = subst (λ (ps : List ℕ). AreStarts sorted (state + 1) ps) (sym pushed) (record {
  len = let e = a.len in length-append starts (place ∷ []) ∙ omega (arith, e);
  each = λ s lt. elim (below_or_last s state (omega (arith, lt))) [
    | inl below ↦ let e = a.len in
        subst (IsStart sorted s) (sym (get_or_append_left starts (place ∷ []) (length sorted) s (omega (arith, below, e)))) (a.each s below)
    | inr same ↦
        subst (IsStart sorted s) (sym (get_or_push starts place (length sorted) s (a.len ∙ sym same))) (subst (λ (t : ℕ). IsStart sorted t place) (sym same) is)
  ];
})

-- what stands in a part of a list
pub in_between : {A : Type 0} (xs : List A) (p q : ℕ) (x : A) → q ≤ length xs →
    Contains (take (q - p) (drop p xs)) x ↔ ((k : ℕ) × (p ≤ k) × (k < q) × (get_or xs k x ≡ x))
in_between xs p q x le = (
  λ h.
      let lt = h.1 in
      let len = length-take (q - p) (drop p xs) in
      let less : h.0 < q - p = omega (arith, lt, len) in
      (p + h.0, omega arith, omega (arith, less), sym (get_or-take (q - p) (drop p xs) h.0 x less ∙ get_or-drop p xs h.0 x) ∙ h.2),
  λ h.
      let from = h.1 in
      let below = h.2 in
      let is : p + (h.0 - p) ≡ h.0 = omega (arith, from) in
      let less : h.0 - p < q - p = omega (arith, from, below) in
      let len = length-take (q - p) (drop p xs) in
      let len' = length-drop p xs in (
        h.0 - p,
        omega (arith, len, len', less, le, from, below),
        get_or-take (q - p) (drop p xs) (h.0 - p) x less ∙ (get_or-drop p xs (h.0 - p) x ∙ (ap (λ (i : ℕ). get_or xs i x) is ∙ h.3)),
      ),
)

-- an element of a part of a list
pub at_between : {A : Type 0} (xs : List A) (p q i : ℕ) (d : A) → i < length (take (q - p) (drop p xs)) → (get_or (take (q - p) (drop p xs)) i d ≡ get_or xs (p + i) d) × (p + i < q)
at_between xs p q i d lt =
    let len = length-take (q - p) (drop p xs) in
    let less : i < q - p = omega (arith, lt, len) in
    (get_or-take (q - p) (drop p xs) i d less ∙ get_or-drop p xs i d, omega (arith, less))

module _ (links : List Link) (last : ℕ) (up : IsAscending last links) (sorted : List Link)
    (same : (l : Link) → Contains sorted l ↔ Contains links l)
    (rises : (i j : ℕ) (d : Link) → i ≤ j → j < length sorted →
    ((get_or sorted i d).from ≤ (get_or sorted j d).from) × ((get_or sorted j d).from ≡ (get_or sorted i d).from → IsBefore (step_of (get_or sorted i d)) (step_of (get_or sorted j d))))
    (starts : List ℕ) (begin : AreStarts sorted last starts) (steps : List Step) (are : steps ≡ map step_of sorted) where
  len : length steps ≡ length sorted
  len = ap length are ∙ length-map sorted step_of

  abbrev at : ℕ → ℕ
  at s = start_at steps starts s

  from_below : (k : ℕ) (d : Link) → k < length sorted → (get_or sorted k d).from < last
  from_below k d lt =
      let there = (same (get_or sorted k d)).0 (Contains-get_or sorted k d lt) in
      let a = up.ascends (get_or sorted k d) there in
      let b = up.within (get_or sorted k d) there in
      omega (arith, a, b)

  start : (s : ℕ) → IsStart sorted s (at s)
  start s = elim (less_or s last) [
    | inl lt ↦ subst (λ (n : ℕ). IsStart sorted s (get_or starts s n)) (sym len) (begin.each s lt)
    | inr le ↦
        let past : at s ≡ length sorted = get_or_past starts s (length steps) (let e = begin.len in omega (arith, e, le)) ∙ len in
        subst (IsStart sorted s) (sym past) (record {
          within = omega arith;
          before = λ k d lt. let b = from_below k d lt in omega (arith, b, le);
          after = λ k d from lt. absurd (omega (arith, from, lt));
        })
  ]

  up_start : (s : ℕ) → at s ≤ at (s + 1)
  up_start s = elim (less_or (at (s + 1)) (at s)) [
    | inl lt ↦
        let w = (start s).within in
        let b = (start s).before (at (s + 1)) (link 0 0 0) lt in
        let a = (start (s + 1)).after (at (s + 1)) (link 0 0 0) (omega arith) (omega (arith, lt, w)) in
        absurd (omega (arith, a, b))
    | inr le ↦ le
  ]

  inside : (s : ℕ) → at s ≤ length steps
  inside s = let w = (start s).within in let e = len in omega (arith, w, e)

  -- between the starts each link leaves the state
  leaves : (s k : ℕ) (d : Link) → at s ≤ k → k < at (s + 1) → (get_or sorted k d).from ≡ s
  leaves s k d from below =
      let w = (start (s + 1)).within in
      let b = (start (s + 1)).before k d below in
      let a = (start s).after k d from (omega (arith, below, w)) in
      omega (arith, a, b)

  step_at : (k : ℕ) (d : Link) (e : Step) → k < length sorted → get_or steps k e ≡ step_of (get_or sorted k d)
  step_at k d e lt = ap (λ (xs : List Step). get_or xs k e) are ∙ get_or-map step_of sorted k d e lt

  same_as : (l : Link) (s : ℕ) (e : Step) → l.from ≡ s → step_of l ≡ e → l ≡ link s e.to e.reading
  same_as l s e f g = same_link l.from s l.to e.to l.reading e.reading f (ap (λ (x : Step). x.to) g) (ap (λ (x : Step). x.reading) g)

  exact_step : (s : ℕ) (e : Step) → Contains (steps_from steps starts s) e ↔ Contains links (link s e.to e.reading)
  exact_step s e = (
    λ h.
        let k = (in_between steps (at s) (at (s + 1)) e (inside (s + 1))).0 h in
        let w = (start (s + 1)).within in
        let below = k.2 in
        let lt : k.0 < length sorted = omega (arith, below, w) in
        let d = link s e.to e.reading in
        let is : get_or sorted k.0 d ≡ d = same_as (get_or sorted k.0 d) s e (leaves s k.0 d k.1 k.2) (sym (step_at k.0 d e lt) ∙ k.3) in
        (same d).0 (subst (λ (x : Link). Contains sorted x) is (Contains-get_or sorted k.0 d lt)),
    λ h.
        let d = link s e.to e.reading in
        let there = (same d).1 h in
        let k = there.0 in
        let lt = there.1 in
        let from : (get_or sorted k d).from ≡ s = ap (λ (x : Link). x.from) there.2 in
        (in_between steps (at s) (at (s + 1)) e (inside (s + 1))).1 (
          k,
          elim (less_or k (at s)) [
            | inl below ↦ let b = (start s).before k d below in absurd (omega (arith, b, from))
            | inr le ↦ le
          ],
          elim (less_or k (at (s + 1))) [
            | inl below ↦ below
            | inr le ↦ let a = (start (s + 1)).after k d le lt in absurd (omega (arith, a, from))
          ],
          step_at k d e lt ∙ ap step_of there.2,
        ),
  )

  in_order : (s : ℕ) → AreInOrder (steps_from steps starts s)
  in_order s i j d le lt =
      let w = (start (s + 1)).within in
      let d' = link 0 d.to d.reading in
      let b = at_between steps (at s) (at (s + 1)) j d lt in
      let a = at_between steps (at s) (at (s + 1)) i d (omega (arith, le, lt)) in
      let below = b.1 in
      let below' = a.1 in
      let first : get_or (steps_from steps starts s) i d ≡ step_of (get_or sorted (at s + i) d') = a.0 ∙ step_at (at s + i) d' d (omega (arith, below', w)) in
      let second : get_or (steps_from steps starts s) j d ≡ step_of (get_or sorted (at s + j) d') = b.0 ∙ step_at (at s + j) d' d (omega (arith, below, w)) in
      let tied : (get_or sorted (at s + j) d').from ≡ (get_or sorted (at s + i) d').from =
      leaves s (at s + j) d' (omega arith) below ∙ sym (leaves s (at s + i) d' (omega arith) below') in
      subst (λ (x : Step). IsBefore x (get_or (steps_from steps starts s) j d)) (sym first)
      (subst (λ (x : Step). IsBefore (step_of (get_or sorted (at s + i) d')) x) (sym second)
      ((rises (at s + i) (at s + j) d' (omega (arith, le)) (omega (arith, below, w))).1 tied))

  pub are_by_start : AreByStart links steps starts
  are_by_start = record { rises = up_start; within = inside; exact = exact_step; ordered = in_order }

-- a link that isn't less leaves no smaller state, and where it leaves the same, its step isn't before
pub not_less_link : (x y : Link) → is_lt (ordering_then (nat_cmp x.from y.from) (ordering_then (nat_cmp x.reading y.reading) (nat_cmp x.to y.to))) ≡ false →
    (y.from ≤ x.from) × (x.from ≡ y.from → IsBefore (step_of y) (step_of x))
not_less_link x y h =
    let e = not_less_first x.from y.from (ordering_then (nat_cmp x.reading y.reading) (nat_cmp x.to y.to)) h in
    (e.0, λ same. not_less_step (step_of x) (step_of y) (e.1 same))
