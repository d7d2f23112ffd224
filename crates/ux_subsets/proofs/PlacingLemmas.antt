-- Sets get their numbers.
use Rattle.std.proofs.Common.{arith, ◌≡◌, ℕ, zero, suc, ◌+◌, ◌<◌, ◌≤◌, ◌⊎◌, inl, inr, List, [], ◌∷◌, ◌++◌, refl, sym, ap, subst, ◌∙◌, length, length-append, append_assoc, get_or, take, ◌-◌, Bool, true, false, cond, ◌||◌}
use mathlib.Core.Bool.{◌&&◌}
use Rattle.std.specs.List.{list_any}
use Rattle.indexmap.specs.IndexSet.{insert_key}
use Rattle.ux_base.proofs.Lists.{less_or}
use Rattle.std.specs.Prelude.{Contains, Some, slice_get}
use Rattle.std.proofs.lemmas.Option.{same_Some, slice_get_within, slice_get-get_or}
use Rattle.std.proofs.lemmas.List.Elements.{Contains-append_left, Contains-push, Contains-push_cases}
use Rattle.std.specs.List.Sorted.{IsStrictlyIncreasing}
use Rattle.ux_subsets.specs.declared.automaton.Link.{Link}
use Rattle.ux_subsets.specs.declared.sets.Set.{Set}
use Rattle.ux_subsets.specs.declared.sets.Over.{Over}
use Rattle.ux_subsets.specs.declared.sets.Waiting.{Waiting}
use Rattle.ux_subsets.specs.Paths.{link, IsAscending}
use Rattle.ux_subsets.specs.Building.{states_of, states_at, first_at, seen_at, IsBuilt, HasNumber, IsPlaced, Unlike, AreUnlike, AreApart, IsStage, Waits}
use Rattle.ux_subsets.proofs.ElementsLemmas.{nothing_in, first_or_later}
use Rattle.ux_subsets.proofs.BuiltLemmas.{placed}

pub states_at_some : (sets : List Set) (n : ℕ) (set : Set) → slice_get sets n ≡ Some set → states_at sets n ≡ states_of set
states_at_some [] n set h = cc
states_at_some (x ∷ sets) zero set h = ap (λ (y : Set). states_of y) (same_Some x set h)
states_at_some (x ∷ sets) (suc n) set h = states_at_some sets n set h

pub states_at_append : (sets more : List Set) (n : ℕ) → n < length sets → states_at (sets ++ more) n ≡ states_at sets n
states_at_append [] more n lt = absurd (omega arith)
states_at_append (x ∷ sets) more zero lt = refl
states_at_append (x ∷ sets) more (suc n) lt = states_at_append sets more n (omega arith)

pub states_at_push : (sets : List Set) (set : Set) → states_at (sets ++ set ∷ []) (length sets) ≡ states_of set
states_at_push [] set = refl
states_at_push (x ∷ sets) set = states_at_push sets set

pub seen_at_some : (sets : List Set) (n : ℕ) (set : Set) → slice_get sets n ≡ Some set → seen_at sets n ≡ set.seen
seen_at_some [] n set h = cc
seen_at_some (x ∷ sets) zero set h = ap (λ (y : Set). y.seen) (same_Some x set h)
seen_at_some (x ∷ sets) (suc n) set h = seen_at_some sets n set h

seen_at_append : (sets more : List Set) (n : ℕ) → n < length sets → seen_at (sets ++ more) n ≡ seen_at sets n
seen_at_append [] more n lt = absurd (omega arith)
seen_at_append (x ∷ sets) more zero lt = refl
seen_at_append (x ∷ sets) more (suc n) lt = seen_at_append sets more n (omega arith)

pub seen_at_push : (sets : List Set) (set : Set) → seen_at (sets ++ set ∷ []) (length sets) ≡ set.seen
seen_at_push [] set = refl
seen_at_push (x ∷ sets) set = seen_at_push sets set

pub both_true : (a b : Bool) → (a && b) ≡ true → (a ≡ true) × (b ≡ true)
both_true true b h = (refl, h)
both_true false b h = cc

pub true_both : (a b : Bool) → a ≡ true → b ≡ true → (a && b) ≡ true
true_both true b h k = k
true_both false b h k = cc

or_true : (b : Bool) → (b || true) ≡ true
or_true true = refl
or_true false = refl

false_true : false ≡ true → ⊥
false_true e = cc

-- the set has a number after it was put to the others
pub has_number : (eq : Set → Set → Bool) (old new : List Set) (set : Set) (number : ℕ) (stored : Set) → new ≡ insert_key eq old set →
    slice_get new number ≡ Some stored → eq set stored ≡ true →
    ((a b : Set) → eq a b ≡ true → (states_of a ≡ states_of b) × (a.seen ≡ b.seen)) →
    ((a b : Set) → states_of a ≡ states_of b → a.seen ≡ b.seen → eq a b ≡ true) → HasNumber old new set number
has_number eq old new set number stored is at equal tells told = by (list_any (eq set) old) refl
  where
    within : number < length new
    within = slice_get_within new number stored at

    states : states_at new number ≡ states_of set
    states = states_at_some new number stored at ∙ sym (tells set stored equal).0

    seen : seen_at new number ≡ set.seen
    seen = seen_at_some new number stored at ∙ sym (tells set stored equal).1

    found : (xs : List Set) (n : ℕ) → n < length xs → states_at xs n ≡ states_of set → seen_at xs n ≡ set.seen → list_any (eq set) xs ≡ true
    found [] n lt e f = absurd (omega (arith, lt))
    found (x ∷ xs) zero lt e f = ap (λ (b : Bool). b || list_any (eq set) xs) (told set x (sym e) (sym f))
    found (x ∷ xs) (suc n) lt e f = ap (λ (b : Bool). eq set x || b) (found xs n (omega (arith, lt)) e f) ∙ or_true (eq set x)

    by : (b : Bool) → list_any (eq set) old ≡ b → HasNumber old new set number
    by true e = record { there = within; same = states; same_seen = seen; either = inl (is ∙ ap (λ (c : Bool). cond c old (old ++ set ∷ [])) e) }
    by false e =
        let new_is : new ≡ old ++ set ∷ [] = is ∙ ap (λ (c : Bool). cond c old (old ++ set ∷ [])) e in
        let unknown = λ (n : ℕ) (lt : n < length old) (f : states_at old n ≡ states_of set) (h : seen_at old n ≡ set.seen). false_true (sym e ∙ found old n lt f h) in
        record { there = within; same = states; same_seen = seen; either = inr (new_is, last_one new_is unknown (less_or number (length old)), unknown) }
      where
        last_one : new ≡ old ++ set ∷ [] → ((n : ℕ) → n < length old → states_at old n ≡ states_of set → seen_at old n ≡ set.seen → ⊥) → (number < length old) ⊎ (length old ≤ number) → number ≡ length old
        last_one new_is unknown (inl lt) = absurd (unknown number lt
            (sym (states_at_append old (set ∷ []) number lt) ∙ (ap (λ (xs : List Set). states_at xs number) (sym new_is) ∙ states))
            (sym (seen_at_append old (set ∷ []) number lt) ∙ (ap (λ (xs : List Set). seen_at xs number) (sym new_is) ∙ seen)))
        last_one new_is unknown (inr le) =
            let len : length new ≡ length old + 1 = ap length new_is ∙ length-append old (set ∷ []) in
            omega (arith, within, le, len)

-- what stays of the sets that were there
module _ (old new : List Set) (set : Set) (number : ℕ) (h : HasNumber old new set number) where
  kept : (n : ℕ) → n < length old → states_at new n ≡ states_at old n
  kept n lt = elim h.either [
    | inl e ↦ ap (λ (xs : List Set). states_at xs n) e
    | inr f ↦ ap (λ (xs : List Set). states_at xs n) f.0 ∙ states_at_append old (set ∷ []) n lt
  ]

  kept_seen : (n : ℕ) → n < length old → seen_at new n ≡ seen_at old n
  kept_seen n lt = elim h.either [
    | inl e ↦ ap (λ (xs : List Set). seen_at xs n) e
    | inr f ↦ ap (λ (xs : List Set). seen_at xs n) f.0 ∙ seen_at_append old (set ∷ []) n lt
  ]

  more : length old ≤ length new
  more = elim h.either [
    | inl e ↦ let len : length new ≡ length old = ap length e in omega (arith, len)
    | inr f ↦ let len : length new ≡ length old + 1 = ap length f.0 ∙ length-append old (set ∷ []) in omega (arith, len)
  ]

  was : (n : ℕ) → n < length new → (n < length old) ⊎ (n ≡ number)
  was n lt = elim h.either [
    | inl e ↦ let len : length new ≡ length old = ap length e in inl (omega (arith, lt, len))
    | inr f ↦ elim (less_or n (length old)) [
      | inl below ↦ inl below
      | inr from ↦
          let len : length new ≡ length old + 1 = ap length f.0 ∙ length-append old (set ∷ []) in
          let at = f.1 in
          inr (omega (arith, lt, from, len, at))
    ]
  ]

  known : (number < length old) ⊎ ((n : ℕ) → n < length old → states_at old n ≡ states_of set → seen_at old n ≡ set.seen → ⊥)
  known = elim h.either [
    | inl e ↦ let len : length new ≡ length old = ap length e in let there = h.there in inl (omega (arith, len, there))
    | inr f ↦ inr f.2
  ]

-- the last one is unlike those before it
pub unlike_front : (front : List Waiting) (w : Waiting) → AreUnlike (front ++ w ∷ []) → AreUnlike front × ((x : Waiting) → Contains front x → Unlike x w)
unlike_front [] w u = (tt, λ x h. absurd (nothing_in h))
unlike_front (y ∷ front) w u =
    let rest = unlike_front front w u.1 in (
      (λ x h. u.0 x (Contains-append_left front (w ∷ []) x h), rest.0),
      λ x h. elim (first_or_later y front x h) [
        | inl e ↦ subst (λ (z : Waiting). Unlike z w) e (u.0 w (Contains-push front w))
        | inr l ↦ rest.1 x l
      ],
    )

-- one set more
module _ (sets sets' : List Set) (Waits Waits' : Waiting → Type 0) (w : Waiting) (waits : Waits w) (number : ℕ) (p : HasNumber sets sets' w.set number)
    (fewer : (x : Waiting) → Waits' x → Waits x) (a : AreApart sets Waits) where
  -- a set that has the number, and is the same as one that was there
  twice : (n : ℕ) → n < length sets → states_at sets' n ≡ states_at sets' number → seen_at sets' n ≡ seen_at sets' number → n ≡ number
  twice n lt states seen = elim (known sets sets' w.set number p) [
    | inl old ↦ a.different n number lt old
        (sym (kept sets sets' w.set number p n lt) ∙ (states ∙ kept sets sets' w.set number p number old))
        (sym (kept_seen sets sets' w.set number p n lt) ∙ (seen ∙ kept_seen sets sets' w.set number p number old))
    | inr unknown ↦ absurd (unknown n lt
        (sym (kept sets sets' w.set number p n lt) ∙ (states ∙ p.same))
        (sym (kept_seen sets sets' w.set number p n lt) ∙ (seen ∙ p.same_seen)))
  ]

  pub placed_apart : AreApart sets' Waits'
  placed_apart = record {
    sorted = λ n lt. elim (was sets sets' w.set number p n lt) [
      | inl old ↦ subst IsStrictlyIncreasing (sym (kept sets sets' w.set number p n old)) (a.sorted n old)
      | inr e ↦ subst IsStrictlyIncreasing (sym (ap (states_at sets') e ∙ p.same)) (a.waits_sorted w waits)
    ];
    waits_sorted = λ x h. a.waits_sorted x (fewer x h);
    different = λ n k lt lt' states seen. elim (was sets sets' w.set number p n lt) [
      | inl old ↦ elim (was sets sets' w.set number p k lt') [
        | inl old' ↦ a.different n k old old'
            (sym (kept sets sets' w.set number p n old) ∙ (states ∙ kept sets sets' w.set number p k old'))
            (sym (kept_seen sets sets' w.set number p n old) ∙ (seen ∙ kept_seen sets sets' w.set number p k old'))
        | inr e' ↦ twice n old (states ∙ ap (states_at sets') e') (seen ∙ ap (seen_at sets') e') ∙ sym e'
      ]
      | inr e ↦ elim (was sets sets' w.set number p k lt') [
        | inl old' ↦ e ∙ sym (twice k old' (sym states ∙ ap (states_at sets') e) (sym seen ∙ ap (seen_at sets') e))
        | inr e' ↦ e ∙ sym e'
      ]
    ];
  }

-- the least state of the set
first_at_states : (sets : List Set) (n : ℕ) (set : Set) → n < length sets → states_at sets n ≡ states_of set → first_at sets n ≡ set.first
first_at_states [] n set lt e = absurd (omega (arith, lt))
first_at_states (x ∷ sets) zero set lt e = cc
first_at_states (x ∷ sets) (suc n) set lt e = first_at_states sets n set (omega (arith, lt)) e

first_at_append : (sets more : List Set) (n : ℕ) → n < length sets → first_at (sets ++ more) n ≡ first_at sets n
first_at_append [] more n lt = absurd (omega arith)
first_at_append (x ∷ sets) more zero lt = refl
first_at_append (x ∷ sets) more (suc n) lt = first_at_append sets more n (omega arith)

pub states_at_behind : (before sets : List Set) (n : ℕ) → states_at (before ++ sets) (length before + n) ≡ states_at sets n
states_at_behind [] sets n = let e : 0 + n ≡ n = omega arith in ap (states_at sets) e
states_at_behind (x ∷ before) sets n =
    let e : suc (length before) + n ≡ suc (length before + n) = omega arith in
    ap (states_at (x ∷ (before ++ sets))) e ∙ states_at_behind before sets n

pub seen_at_behind : (before sets : List Set) (n : ℕ) → seen_at (before ++ sets) (length before + n) ≡ seen_at sets n
seen_at_behind [] sets n = let e : 0 + n ≡ n = omega arith in ap (seen_at sets) e
seen_at_behind (x ∷ before) sets n =
    let e : suc (length before) + n ≡ suc (length before + n) = omega arith in
    ap (seen_at (x ∷ (before ++ sets))) e ∙ seen_at_behind before sets n

-- the place among the sets with one least state is a number among all sets
behind_others : (before old new : List Set) (set : Set) (place : ℕ) → ((n : ℕ) → n < length before → first_at before n ≡ set.first → ⊥) →
    HasNumber old new set place → HasNumber (before ++ old) (before ++ new) set (length before + place)
behind_others before old new set place other h = record {
  there = let len = length-append before new in let there = h.there in omega (arith, len, there);
  same = states_at_behind before new place ∙ h.same;
  same_seen = seen_at_behind before new place ∙ h.same_seen;
  either = elim h.either [
    | inl e ↦ inl (ap (λ (xs : List Set). before ++ xs) e)
    | inr f ↦ inr (
      ap (λ (xs : List Set). before ++ xs) f.0 ∙ sym (append_assoc before old (set ∷ [])),
      (let at = f.1 in let len = length-append before old in omega (arith, at, len)),
      λ n lt states seen. elim (less_or n (length before)) [
        | inl lt' ↦ other n lt' (first_at_states before n set lt' (sym (states_at_append before old n lt') ∙ states))
        | inr le ↦
            let is : length before + (n - length before) ≡ n = omega (arith, le) in
            let len = length-append before old in
            f.2 (n - length before) (omega (arith, le, lt, len))
            (sym (states_at_behind before old (n - length before)) ∙ (ap (states_at (before ++ old)) is ∙ states))
            (sym (seen_at_behind before old (n - length before)) ∙ (ap (seen_at (before ++ old)) is ∙ seen))
      ],
    )
  ];
}

fewer_due : (front : List Waiting) (one : Waiting) (filed : ℕ → List Waiting) (w : Waiting) → Waits front filed w → Waits (front ++ one ∷ []) filed w
fewer_due front one filed w h = elim h [ inl d ↦ inl (Contains-append_left front (one ∷ []) w d) | inr f ↦ inr f ]

split_due : (front : List Waiting) (one : Waiting) (filed : ℕ → List Waiting) (w : Waiting) → Waits (front ++ one ∷ []) filed w → Waits front filed w ⊎ (w ≡ one)
split_due front one filed w h = elim h [
  | inl d ↦ elim (Contains-push_cases front one w d) [ inl f ↦ inl (inl f) | inr e ↦ inr (sym e) ]
  | inr f ↦ inl (inr f)
]

-- one that is due gets its link
module _ {Stands : ℕ → List ℕ → Type 0} {Satisfies : List ℕ → Type 0} (last : ℕ) (links : List Link) (up : IsAscending last links) (before sets sets' : List Set) (links' links'' : List Link) (overs : List Over)
    (front : List Waiting) (one : Waiting) (filed : ℕ → List Waiting) (state : ℕ) (all : Bool) (at : one.set.first ≡ state) (p : IsPlaced (length before) sets sets' links' links'' one)
    (m : IsStage Stands Satisfies last links (before ++ sets) links' overs (front ++ one ∷ []) filed (length before) (length before) state all) where
  other : (n : ℕ) → n < length before → first_at before n ≡ one.set.first → ⊥
  other n lt e = let b = m.below n lt in let same = first_at_append before sets n lt in omega (arith, b, e, at, same)

  has : HasNumber (before ++ sets) (before ++ sets') one.set (length before + p.place)
  has = behind_others before sets sets' one.set p.place other p.has

  due_first : Waits (front ++ one ∷ []) filed one
  due_first = inl (Contains-push front one)

  alone : (x : Waiting) → Waits front filed x → Unlike x one
  alone x h = elim h [
    | inl d ↦ (unlike_front front one m.are.unlike).1 x d
    | inr f ↦ λ from reading. m.are.unlike_due f.0 one x (Contains-push front one) f.1 (sym from) (sym reading)
  ]

  new_first : (n : ℕ) → n ≡ length before + p.place → first_at (before ++ sets') n ≡ state
  new_first n e = first_at_states (before ++ sets') n one.set (let t = has.there in omega (arith, e, t)) (ap (states_at (before ++ sets')) e ∙ has.same) ∙ at

  kept_first : (n : ℕ) → n < length (before ++ sets) → first_at (before ++ sets') n ≡ first_at (before ++ sets) n
  kept_first n lt = elim has.either [
    | inl e ↦ ap (λ (xs : List Set). first_at xs n) e
    | inr f ↦ ap (λ (xs : List Set). first_at xs n) f.0 ∙ first_at_append (before ++ sets) (one.set ∷ []) n lt
  ]

  before_in : (n : ℕ) → n < length before → n < length (before ++ sets)
  before_in n lt = let len = length-append before sets in omega (arith, len, lt)

  pub stage_placed : IsStage Stands Satisfies last links (before ++ sets') links'' overs front filed (length before) (length before) state all
  stage_placed = record {
    built = subst (λ (ls : List Link). IsBuilt Stands Satisfies last links (before ++ sets') ls overs (Waits front filed) (length before)) (sym p.linked)
        (placed last links up (before ++ sets) (before ++ sets') links' overs (Waits (front ++ one ∷ []) filed) (Waits front filed) (length before) m.built
        one due_first (length before + p.place) (λ x h. fewer_due front one filed x h) (λ x h. split_due front one filed x h) alone
        (kept (before ++ sets) (before ++ sets') one.set (length before + p.place) has) (more (before ++ sets) (before ++ sets') one.set (length before + p.place) has)
        (was (before ++ sets) (before ++ sets') one.set (length before + p.place) has)
        has.there has.same (kept_seen (before ++ sets) (before ++ sets') one.set (length before + p.place) has) has.same_seen);
    are = record {
      unlike = (unlike_front front one m.are.unlike).0;
      unlike_in = m.are.unlike_in;
      unlike_due = λ k x y h. m.are.unlike_due k x y (Contains-append_left front (one ∷ []) x h);
      unlike_across = m.are.unlike_across;
      place = m.are.place;
    };
    passed = m.passed;
    behind = omega arith;
    below = λ n lt. let b = m.below n lt in let same = kept_first n (before_in n lt) in omega (arith, b, same);
    here = λ n from lt. elim (was (before ++ sets) (before ++ sets') one.set (length before + p.place) has n lt) [
      | inl old ↦ kept_first n old ∙ m.here n from old
      | inr e ↦ new_first n e
    ];
    rising = λ l h. elim (Contains-push_cases links' (link one.from (length before + p.place) one.reading) l (subst (λ (ls : List Link). Contains ls l) p.linked h)) [
      | inl old ↦ m.rising l old
      | inr e ↦ let from = m.built.waits one due_first in subst (λ (x : Link). x.from < x.to) e (omega (arith, from))
    ];
    apart = placed_apart (before ++ sets) (before ++ sets') (Waits (front ++ one ∷ []) filed) (Waits front filed) one due_first (length before + p.place) has
        (λ x h. fewer_due front one filed x h) m.apart;
    kept = λ so n r lt leads.
        m.kept so n r lt (leads.0, subst (λ (xs : List ℕ). Contains xs leads.0) (kept (before ++ sets) (before ++ sets') one.set (length before + p.place) has n (before_in n lt)) leads.1, leads.2);
  }

-- a list from which nothing could be taken is empty
pub nothing_left : {A : Type 0} (v new : List A) (n : ℕ) → n ≡ 0 → new ≡ take (n - 1) v → v ≡ new ++ [] → v ≡ []
nothing_left v new n zero_long rest items =
    let none : n - 1 ≡ 0 = omega arith in
    let gone : new ≡ [] = rest ∙ (ap (λ (k : ℕ). take k v) none ∙ take_none v) in
    items ∙ ap (λ xs. xs ++ []) gone
  where
    take_none : {A : Type 0} (xs : List A) → take 0 xs ≡ []
    take_none [] = refl
    take_none (x ∷ xs) = refl

-- the set at the place has its states
pub states_at_get : (sets : List Set) (n : ℕ) (d : Set) → n < length sets → states_at sets n ≡ states_of (get_or sets n d)
states_at_get sets n d lt = states_at_some sets n (get_or sets n d) (slice_get-get_or sets n d lt)

pub seen_at_get : (sets : List Set) (n : ℕ) (d : Set) → n < length sets → seen_at sets n ≡ (get_or sets n d).seen
seen_at_get sets n d lt = seen_at_some sets n (get_or sets n d) (slice_get-get_or sets n d lt)
