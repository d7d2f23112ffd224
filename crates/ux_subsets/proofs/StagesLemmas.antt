-- Stages of the building: the first, one set more that has its links, and what waits filed and taken.
use Rattle.std.proofs.Common.{arith, ◌≡◌, ◌≢◌, ℕ, zero, suc, ◌+◌, ◌<◌, ◌≤◌, ◌↔◌, ◌⊎◌, ◌++◌, inl, inr, List, [], ◌∷◌, refl, sym, ap, subst, ◌∙◌, length}
use Rattle.std.specs.Prelude.{Contains, Bool, true, IsTrue}
use Rattle.std.specs.List.Sorted.{IsStrictlyIncreasing}
use Rattle.std.proofs.lemmas.List.Elements.{Contains-append_left, Contains-push, Contains-push_cases}
use Rattle.ux_base.proofs.Lists.{less_or, same_or}
use Rattle.ux_subsets.specs.declared.automaton.Link.{Link}
use Rattle.ux_subsets.specs.declared.sets.Set.{Set}
use Rattle.ux_subsets.specs.declared.sets.Over.{Over}
use Rattle.ux_subsets.specs.declared.sets.Waiting.{Waiting}
use Rattle.ux_subsets.specs.Paths.{link, IsAscending, Spells}
use Rattle.ux_subsets.specs.Machines.{Grows}
use Rattle.ux_subsets.specs.Agenda.{IsFiled, IsTaken}
use Rattle.ux_subsets.specs.Building.{states_of, states_at, first_at, seen_at, over_at, Leads, IsBuilt, LeadsFrom, IsExpansion, IsStage, IsReached, AreApart, AreUnlike, Unlike, Waits}
use Rattle.ux_subsets.proofs.ElementsLemmas.{nothing_in, first_or_later, contains_first}
use Rattle.ux_subsets.proofs.NotingLemmas.{unlike_append}
use Rattle.ux_subsets.proofs.ExpandingLemmas.{expanded}
use Rattle.ux_subsets.proofs.PassesLemmas.{head_below}
use Rattle.ux_subsets.proofs.PlacingLemmas.{unlike_front}
use Rattle.ux_subsets.proofs.SubsetsSpellLemmas.{below_or_last}

pub grows_none : (Stands : ℕ → List ℕ → Type 0) (Satisfies : List ℕ → Type 0) → Grows Stands Stands Satisfies Satisfies
grows_none Stands Satisfies = record { kept = λ q w h. h; only = λ q u w h k. k; meant = λ w. (λ h. h, λ h. h) }

pub grows_both : {Stands Stands' Stands'' : ℕ → List ℕ → Type 0} {Satisfies Satisfies' Satisfies'' : List ℕ → Type 0} →
    Grows Stands Stands' Satisfies Satisfies' → Grows Stands' Stands'' Satisfies' Satisfies'' → Grows Stands Stands'' Satisfies Satisfies''
grows_both g h = record {
  kept = λ q w s. h.kept q w (g.kept q w s);
  only = λ q u w s t. g.only q u w s (h.only q u w (g.kept q u s) t);
  meant = λ w. (λ s. (h.meant w).0 ((g.meant w).0 s), λ s. (g.meant w).1 ((h.meant w).1 s));
}

-- the least state is in the set
pub first_in : (sets : List Set) (p : ℕ) → p < length sets → Contains (states_at sets p) (first_at sets p)
first_in [] p lt = absurd (omega (arith, lt))
first_in (set ∷ sets) zero lt = contains_first set.first set.others.items
first_in (set ∷ sets) (suc p) lt = first_in sets p (omega (arith, lt))

-- no state of the set is less
pub first_least : (sets : List Set) (p : ℕ) → IsStrictlyIncreasing (states_at sets p) → (s : ℕ) → Contains (states_at sets p) s → first_at sets p ≤ s
first_least [] p up s h = absurd (nothing_in h)
first_least (set ∷ sets) zero up s h = elim (first_or_later set.first set.others.items s h) [
  | inl e ↦ omega (arith, e)
  | inr l ↦ let b = head_below set.first set.others.items up s l in omega (arith, b)
]
first_least (set ∷ sets) (suc p) up s h = first_least sets p up s h

-- what was built stays right while the machine learns states
module _ {Stands Stands' : ℕ → List ℕ → Type 0} {Satisfies Satisfies' : List ℕ → Type 0} (g : Grows Stands Stands' Satisfies Satisfies')
    (last : ℕ) (links : List Link) (sets : List Set) (links' : List Link) (overs : List Over) (W : Waiting → Type 0) (n : ℕ)
    (b : IsBuilt Stands Satisfies last links sets links' overs W n) where
  only : (k : ℕ) → k < length sets → (before : List ℕ) → Stands' (seen_at sets k) before → Stands (seen_at sets k) before
  only k lt before h = let u = b.stood k lt in g.only (seen_at sets k) u.0 before u.1 h

  grown : IsBuilt Stands' Satisfies' last links sets links' overs W n
  grown = record {
    first = b.first;
    some = b.some;
    count = b.count;
    linked = b.linked;
    linked_set = b.linked_set;
    waits = b.waits;
    waits_set = b.waits_set;
    waits_some = b.waits_some;
    fresh = g.kept (seen_at sets 0) [] b.fresh;
    stood = λ k lt. let u = b.stood k lt in (u.0, g.kept (seen_at sets k) u.0 u.1);
    linked_seen = λ l h before stands. let c = b.count in let from = b.linked l h in
        g.kept (seen_at sets l.to) (before ++ l.reading ∷ []) (b.linked_seen l h before (only l.from (omega (arith, c, from.0)) before stands));
    waits_seen = λ w h before stands. let c = b.count in let from = b.waits w h in
        g.kept w.set.seen (before ++ w.reading ∷ []) (b.waits_seen w h before (only w.from (omega (arith, c, from)) before stands));
    over = λ k r lt before stands. let c = b.count in
        let o = b.over k r lt before (only k (omega (arith, c, lt)) before stands) in
        let m = g.meant (before ++ r ∷ []) in (
          λ h. let x = o.0 h in (x.0, m.0 x.1),
          λ h. o.1 (h.0, m.1 h.1),
        );
    over_in = b.over_in;
    going = b.going;
    once = b.once;
    apart = b.apart;
    inside = b.inside;
    filled = b.filled;
    reached = b.reached;
  }

-- what was built stays right where the same waits
module _ {Stands : ℕ → List ℕ → Type 0} {Satisfies : List ℕ → Type 0} (last : ℕ) (links : List Link) (sets : List Set) (links' : List Link) (overs : List Over) (W W' : Waiting → Type 0)
    (same : (w : Waiting) → W w ↔ W' w) where
  waits_same : (n : ℕ) → IsBuilt Stands Satisfies last links sets links' overs W n → IsBuilt Stands Satisfies last links sets links' overs W' n
  waits_same n b = record {
    first = b.first;
    some = b.some;
    count = b.count;
    linked = b.linked;
    linked_set = b.linked_set;
    waits = λ w h. b.waits w ((same w).1 h);
    waits_set = λ w h. b.waits_set w ((same w).1 h);
    waits_some = λ w h. b.waits_some w ((same w).1 h);
    fresh = b.fresh;
    stood = b.stood;
    linked_seen = b.linked_seen;
    waits_seen = λ w h. b.waits_seen w ((same w).1 h);
    over = b.over;
    over_in = b.over_in;
    going = λ k r t lt nx. elim (b.going k r t lt nx) [ inl l ↦ inl l | inr w ↦ inr (w.0, (same w.0).0 w.1, w.2, w.3) ];
    once = b.once;
    apart = λ l w h still. b.apart l w h ((same w).1 still);
    inside = b.inside;
    filled = b.filled;
    reached = b.reached;
  }

apart_same : (sets : List Set) (W W' : Waiting → Type 0) → ((w : Waiting) → W w ↔ W' w) → AreApart sets W → AreApart sets W'
apart_same sets W W' same a = record { sorted = a.sorted; waits_sorted = λ w h. a.waits_sorted w ((same w).1 h); different = a.different }

-- one set more has its links
pub stage_expanded : {Stands Stands' : ℕ → List ℕ → Type 0} {Satisfies Satisfies' : List ℕ → Type 0} → Grows Stands Stands' Satisfies Satisfies' →
    (last : ℕ) (links : List Link) → IsAscending last links → (sets : List Set) (links' : List Link) (overs overs' : List Over) (due : List Waiting) (filed : ℕ → List Waiting) (n border state : ℕ) →
    n < length sets → (readings : List ℕ) → ((r t : ℕ) → LeadsFrom last links (states_at sets n) n r t → Contains readings r) →
    IsExpansion last links (states_at sets n) n Stands Stands' Satisfies (seen_at sets n) readings [] due overs overs' →
    (all all' : Bool) → (IsTrue all' → IsTrue all) → (IsTrue all' → (r : ℕ) → LeadsFrom last links (states_at sets n) n r last → Contains overs' (over_at n r)) →
    IsStage Stands Satisfies last links sets links' overs [] filed n border state all →
    IsStage Stands' Satisfies' last links sets links' overs' due filed (n + 1) border state all' × ((w : Waiting) → Contains due w → state < w.set.first)
stage_expanded {Stands} {Stands'} {Satisfies} {Satisfies'} g last links up sets links' overs overs' due filed n border state inside readings each e all all' before_too kept old = (
  record {
    built = expanded last links up sets links' overs overs' (Waits [] filed) (Contains e.new) (Waits due filed) n (grown g last links sets links' overs (Waits [] filed) n old.built) inside
        (λ w. (
          λ h. elim h [ inl d ↦ inr (is_new w d) | inr f ↦ inl (inr f) ],
          λ h. elim h [
            | inl a ↦ elim a [ inl none ↦ absurd (nothing_in none) | inr f ↦ inr f ]
            | inr b ↦ inl (subst (λ (ws : List Waiting). Contains ws w) (sym e.appended) b)
          ],
        ))
        (λ before stands o.
        let at = e.over before (only g last links sets links' overs (Waits [] filed) n old.built n inside before stands) o in
        let m = g.meant (before ++ o.reading ∷ []) in (
          λ h. elim (at.0 h) [ inl x ↦ inl x | inr x ↦ inr (x.0, x.2, m.0 x.3) ],
          λ h. elim h [ inl x ↦ at.1 (inl x) | inr x ↦ at.1 (inr (x.0, each o.reading last x.1, x.1, m.1 x.2)) ],
        ))
        (λ w h before stands. e.sees w h before (only g last links sets links' overs (Waits [] filed) n old.built n inside before stands))
        e.from e.set e.some (λ r t nx. e.each r t (each r t nx.1) nx);
    are = record {
      unlike = subst AreUnlike (sym e.appended) e.unlike;
      unlike_in = old.are.unlike_in;
      unlike_due = λ k x y d f from reading.
          let b = old.built.waits y (inr (k, f)) in let at = e.from x (is_new x d) in absurd (omega (arith, from, b, at));
      unlike_across = old.are.unlike_across;
      place = old.are.place;
    };
    passed = old.passed;
    behind = let b = old.behind in omega (arith, b);
    below = old.below;
    here = old.here;
    rising = old.rising;
    apart = record {
      sorted = old.apart.sorted;
      waits_sorted = λ w h. elim h [ inl d ↦ e.sorted w (is_new w d) | inr f ↦ old.apart.waits_sorted w (inr f) ];
      different = old.apart.different;
    };
    kept = λ is m r lt leads. elim (below_or_last m n (omega (arith, lt))) [
      | inl below ↦
          let u = old.built.stood n inside in
          (e.over u.0 u.1 (over_at m r)).1 (inl (old.kept (before_too is) m r below leads))
      | inr at ↦ subst (λ (k : ℕ). Contains overs' (over_at k r)) (sym at)
          (kept is r (subst (λ (k : ℕ). Leads last links sets k r last) at leads))
    ];
  },
  λ w d.
      let nx = (e.set w (is_new w d) w.set.first).0 (contains_first w.set.first w.set.others.items) in
      let rises = up.ascends (link nx.1.0 w.set.first w.reading) nx.1.2 in
      let low = first_least sets n (old.apart.sorted n inside) nx.1.0 nx.1.1 in
      let at = old.here n old.behind inside in
      omega (arith, rises, low, at),
)
  where
    is_new : (w : Waiting) → Contains due w → Contains e.new w
    is_new w d = subst (λ (ws : List Waiting). Contains ws w) e.appended d

-- one that was due is filed
module _ {Stands : ℕ → List ℕ → Type 0} {Satisfies : List ℕ → Type 0} (last : ℕ) (links : List Link) (sets : List Set) (links' : List Link) (overs : List Over) (front : List Waiting) (one : Waiting)
    (filed filed' : ℕ → List Waiting) (expanded border state : ℕ) (all : Bool) (later : state < one.set.first) (f : IsFiled filed filed' one)
    (s : IsStage Stands Satisfies last links sets links' overs (front ++ one ∷ []) filed expanded border state all) where
  was_filed : (k : ℕ) (w : Waiting) → Contains (filed' k) w → Contains (filed k) w ⊎ ((w ≡ one) × (k ≡ one.set.first))
  was_filed k w h = elim (same_or k one.set.first) [
    | inl e ↦ elim (Contains-push_cases (filed one.set.first) one w
        (subst (λ (ws : List Waiting). Contains ws w) f.is (subst (λ (j : ℕ). Contains (filed' j) w) e h))) [
          | inl old ↦ inl (subst (λ (j : ℕ). Contains (filed j) w) (sym e) old)
          | inr is ↦ inr (sym is, e)
        ]
    | inr other ↦ inl (subst (λ (ws : List Waiting). Contains ws w) (f.rest k other) h)
  ]

  is_filed : (k : ℕ) (w : Waiting) → Contains (filed k) w → Contains (filed' k) w
  is_filed k w h = elim (same_or k one.set.first) [
    | inl e ↦ subst (λ (j : ℕ). Contains (filed' j) w) (sym e) (subst (λ (ws : List Waiting). Contains ws w) (sym f.is)
        (Contains-append_left (filed one.set.first) (one ∷ []) w (subst (λ (j : ℕ). Contains (filed j) w) e h)))
    | inr other ↦ subst (λ (ws : List Waiting). Contains ws w) (sym (f.rest k other)) h
  ]

  one_filed : Contains (filed' one.set.first) one
  one_filed = subst (λ (ws : List Waiting). Contains ws one) (sym f.is) (Contains-push (filed one.set.first) one)

  same : (w : Waiting) → Waits (front ++ one ∷ []) filed w ↔ Waits front filed' w
  same w = (
    λ h. elim h [
      | inl d ↦ elim (Contains-push_cases front one w d) [
        | inl a ↦ inl a
        | inr e ↦ inr (one.set.first, subst (λ (x : Waiting). Contains (filed' one.set.first) x) e one_filed)
      ]
      | inr k ↦ inr (k.0, is_filed k.0 w k.1)
    ],
    λ h. elim h [
      | inl d ↦ inl (Contains-append_left front (one ∷ []) w d)
      | inr k ↦ elim (was_filed k.0 w k.1) [
        | inl old ↦ inr (k.0, old)
        | inr e ↦ inl (subst (λ (x : Waiting). Contains (front ++ one ∷ []) x) (sym e.0) (Contains-push front one))
      ]
    ],
  )

  one_due : Contains (front ++ one ∷ []) one
  one_due = Contains-push front one

  turn : (x y : Waiting) → Unlike x y → Unlike y x
  turn x y u from reading = u (sym from) (sym reading)

  pub stage_filed : IsStage Stands Satisfies last links sets links' overs front filed' expanded border state all
  stage_filed = record {
    built = waits_same last links sets links' overs (Waits (front ++ one ∷ []) filed) (Waits front filed') same expanded s.built;
    are = record {
      unlike = (unlike_front front one s.are.unlike).0;
      unlike_in = λ k. elim (same_or k one.set.first) [
        | inl e ↦ subst (λ (j : ℕ). AreUnlike (filed' j)) (sym e) (subst AreUnlike (sym f.is)
            (unlike_append (filed one.set.first) (one ∷ []) (s.are.unlike_in one.set.first) (λ y h. absurd (nothing_in h), tt)
            (λ x y h k. elim (first_or_later one [] y k) [
              | inl is ↦ subst (λ (z : Waiting). Unlike x z) is (turn one x (s.are.unlike_due one.set.first one x one_due h))
              | inr none ↦ absurd (nothing_in none)
            ])))
        | inr other ↦ subst AreUnlike (sym (f.rest k other)) (s.are.unlike_in k)
      ];
      unlike_due = λ k x y d h. elim (was_filed k y h) [
        | inl old ↦ s.are.unlike_due k x y (Contains-append_left front (one ∷ []) x d) old
        | inr e ↦ subst (λ (z : Waiting). Unlike x z) (sym e.0) ((unlike_front front one s.are.unlike).1 x d)
      ];
      unlike_across = λ k j x y differ h h'. elim (was_filed k x h) [
        | inl old ↦ elim (was_filed j y h') [
          | inl old' ↦ s.are.unlike_across k j x y differ old old'
          | inr e' ↦ subst (λ (z : Waiting). Unlike x z) (sym e'.0) (turn one x (s.are.unlike_due k one x one_due old))
        ]
        | inr e ↦ elim (was_filed j y h') [
          | inl old' ↦ subst (λ (z : Waiting). Unlike z y) (sym e.0) (s.are.unlike_due j one y one_due old')
          | inr e' ↦ absurd (differ (e.1 ∙ sym e'.1))
        ]
      ];
      place = λ k w h. elim (was_filed k w h) [
        | inl old ↦ s.are.place k w old
        | inr e ↦ ap (λ (x : Waiting). x.set.first) e.0 ∙ sym e.1
      ];
    };
    passed = λ k le. f.rest k (λ e. absurd (omega (arith, e, le, later))) ∙ s.passed k le;
    behind = s.behind;
    below = s.below;
    here = s.here;
    rising = s.rising;
    apart = apart_same sets (Waits (front ++ one ∷ []) filed) (Waits front filed') same s.apart;
    kept = s.kept;
  }

-- what is filed for the next state is due
module _ {Stands : ℕ → List ℕ → Type 0} {Satisfies : List ℕ → Type 0} (last : ℕ) (links : List Link) (sets : List Set) (links' : List Link) (overs : List Over) (due : List Waiting)
    (filed filed' : ℕ → List Waiting) (border done state : ℕ) (all : Bool) (next : state ≡ done + 1) (t : IsTaken filed filed' state due)
    (s : IsStage Stands Satisfies last links sets links' overs [] filed (length sets) border done all) where
  still : (k : ℕ) (w : Waiting) → Contains (filed' k) w → (k ≢ state) × Contains (filed k) w
  still k w h = elim (same_or k state) [
    | inl e ↦ absurd (nothing_in (subst (λ (ws : List Waiting). Contains ws w) t.gone (subst (λ (j : ℕ). Contains (filed' j) w) e h)))
    | inr other ↦ (other, subst (λ (ws : List Waiting). Contains ws w) (t.rest k other) h)
  ]

  was_due : (w : Waiting) → Contains due w → Contains (filed state) w
  was_due w d = subst (λ (ws : List Waiting). Contains ws w) t.is d

  same_taken : (w : Waiting) → Waits [] filed w ↔ Waits due filed' w
  same_taken w = (
    λ h. elim h [
      | inl none ↦ absurd (nothing_in none)
      | inr k ↦ elim (same_or k.0 state) [
        | inl e ↦ inl (subst (λ (ws : List Waiting). Contains ws w) (sym t.is) (subst (λ (j : ℕ). Contains (filed j) w) e k.1))
        | inr other ↦ inr (k.0, subst (λ (ws : List Waiting). Contains ws w) (sym (t.rest k.0 other)) k.1)
      ]
    ],
    λ h. elim h [ inl d ↦ inr (state, was_due w d) | inr k ↦ inr (k.0, (still k.0 w k.1).1) ],
  )

  pub due_here : (w : Waiting) → Contains due w → w.set.first ≡ state
  due_here w d = s.are.place state w (was_due w d)

  pub stage_taken : IsStage Stands Satisfies last links sets links' overs due filed' (length sets) (length sets) state all
  stage_taken = record {
    built = waits_same last links sets links' overs (Waits [] filed) (Waits due filed') same_taken (length sets) s.built;
    are = record {
      unlike = subst AreUnlike (sym t.is) (s.are.unlike_in state);
      unlike_in = λ k. elim (same_or k state) [
        | inl e ↦ subst (λ (j : ℕ). AreUnlike (filed' j)) (sym e) (subst AreUnlike (sym t.gone) tt)
        | inr other ↦ subst AreUnlike (sym (t.rest k other)) (s.are.unlike_in k)
      ];
      unlike_due = λ k x y d h. let st = still k y h in s.are.unlike_across state k x y (λ e. st.0 (sym e)) (was_due x d) st.1;
      unlike_across = λ k j x y differ h h'. s.are.unlike_across k j x y differ (still k x h).1 (still j y h').1;
      place = λ k w h. s.are.place k w (still k w h).1;
    };
    passed = λ k le. elim (less_or k state) [
      | inl lt ↦ t.rest k (λ e. absurd (omega (arith, e, lt))) ∙ s.passed k (omega (arith, lt, next))
      | inr ge ↦ let e : k ≡ state = omega (arith, le, ge) in ap filed' e ∙ t.gone
    ];
    behind = omega arith;
    below = λ n lt. elim (less_or n border) [
      | inl lt' ↦ let b = s.below n lt' in omega (arith, b, next)
      | inr le ↦ let e = s.here n le lt in omega (arith, e, next)
    ];
    here = λ n from lt. absurd (omega (arith, from, lt));
    rising = s.rising;
    apart = apart_same sets (Waits [] filed) (Waits due filed') same_taken s.apart;
    kept = s.kept;
  }

-- before any set has its links
pub begun : {Stands : ℕ → List ℕ → Type 0} {Satisfies : List ℕ → Type 0} (last : ℕ) (links : List Link) → 0 < last → (set : Set) → states_of set ≡ 0 ∷ [] → Stands set.seen [] →
    (filed : ℕ → List Waiting) → ((k : ℕ) → filed k ≡ []) →
    IsStage Stands Satisfies last links (set ∷ []) [] [] [] filed 0 0 0 true
begun {Stands} {Satisfies} last links some set zero_only stands filed empty = record {
  built = record {
    first = zero_only;
    some = omega arith;
    count = omega arith;
    linked = λ l h. absurd (nothing_in h);
    linked_set = λ l h. absurd (nothing_in h);
    waits = λ w h. absurd (never w h);
    waits_set = λ w h. absurd (never w h);
    waits_some = λ w h. absurd (never w h);
    fresh = stands;
    stood = λ n lt. stands_at n lt;
    linked_seen = λ l h. absurd (nothing_in h);
    waits_seen = λ w h. absurd (never w h);
    over = λ n r lt. absurd (omega (arith, lt));
    over_in = λ o h. absurd (nothing_in h);
    going = λ n r t lt. absurd (omega (arith, lt));
    once = λ l m h. absurd (nothing_in h);
    apart = λ l w h. absurd (nothing_in h);
    inside = λ n s lt h. within n s lt h;
    filled = λ n lt. has_zero n lt;
    reached = λ n lt. at_zero n lt;
  };
  are = record {
    unlike = tt;
    unlike_in = λ k. subst AreUnlike (sym (empty k)) tt;
    unlike_due = λ k x y h. absurd (nothing_in h);
    unlike_across = λ k j x y differ h. absurd (nowhere k x h);
    place = λ k w h. absurd (nowhere k w h);
  };
  passed = λ k le. empty k;
  behind = omega arith;
  below = λ n lt. absurd (omega (arith, lt));
  here = λ n from lt. first_zero n lt;
  rising = λ l h. absurd (nothing_in h);
  apart = record {
    sorted = λ n lt. rising n lt;
    waits_sorted = λ w h. absurd (never w h);
    different = λ n k lt lt' states seen. omega (arith, lt, lt');
  };
  kept = λ is n r lt. absurd (omega (arith, lt));
}
  where
    nowhere : (k : ℕ) (w : Waiting) → Contains (filed k) w → ⊥
    nowhere k w h = nothing_in (subst (λ (ws : List Waiting). Contains ws w) (empty k) h)

    never : (w : Waiting) → Waits [] filed w → ⊥
    never w h = elim h [ inl none ↦ nothing_in none | inr k ↦ nowhere k.0 w k.1 ]

    first_zero : (n : ℕ) → n < length (set ∷ []) → first_at (set ∷ []) n ≡ 0
    first_zero zero lt = cc
    first_zero (suc n) lt = absurd (omega arith)

    stands_at : (n : ℕ) → n < length (set ∷ []) → (before : List ℕ) × Stands (seen_at (set ∷ []) n) before
    stands_at zero lt = ([], stands)
    stands_at (suc n) lt = absurd (omega arith)

    one_long : (k : ℕ) → k + 1 < 1 → ⊥
    one_long k lt = omega arith

    rising : (n : ℕ) → n < length (set ∷ []) → IsStrictlyIncreasing (states_at (set ∷ []) n)
    rising zero lt = subst IsStrictlyIncreasing (sym zero_only) (λ k lt'. absurd (one_long k lt'))
    rising (suc n) lt = absurd (omega arith)

    within : (n s : ℕ) → n < length (set ∷ []) → Contains (states_at (set ∷ []) n) s → s < last
    within zero s lt h = elim (first_or_later 0 [] s (subst (λ (xs : List ℕ). Contains xs s) zero_only h)) [ inl e ↦ omega (arith, e, some) | inr none ↦ absurd (nothing_in none) ]
    within (suc n) s lt h = absurd (nothing_in h)

    has_zero : (n : ℕ) → n < length (set ∷ []) → (s : ℕ) × Contains (states_at (set ∷ []) n) s
    has_zero zero lt = (0, subst (λ (xs : List ℕ). Contains xs 0) (sym zero_only) (contains_first 0 []))
    has_zero (suc n) lt = absurd (omega arith)

    at_zero : (n : ℕ) → n < length (set ∷ []) → (readings : List ℕ) × Spells [] 0 n readings
    at_zero zero lt = ([], ([], refl, refl))
    at_zero (suc n) lt = absurd (omega arith)

-- after the last state nothing waits
pub all_reached : {Stands : ℕ → List ℕ → Type 0} {Satisfies : List ℕ → Type 0} (last : ℕ) (links : List Link) → IsAscending last links → (sets : List Set) (links' : List Link) (overs : List Over)
    (filed : ℕ → List Waiting) (border done : ℕ) (all : Bool) → last ≤ done + 1 → (count : ℕ) → count ≡ length sets →
    IsStage Stands Satisfies last links sets links' overs [] filed (length sets) border done all → IsReached Stands Satisfies last links sets links' overs count all
all_reached last links up sets links' overs filed border done all over count counted s = record {
  counted = counted;
  built = waits_same last links sets links' overs (Waits [] filed) (λ w. ⊥) (λ w. (λ h. never w h, λ h. absurd h)) (length sets) s.built;
  rising = s.rising;
  apart = record { sorted = s.apart.sorted; waits_sorted = λ w h. absurd h; different = s.apart.different };
  kept = s.kept;
}
  where
    never : (w : Waiting) → Waits [] filed w → ⊥
    never w h = elim h [
      | inl none ↦ nothing_in none
      | inr k ↦ elim (less_or done k.0) [
        | inl past ↦
            let nx = (s.built.waits_set w (inr k) w.set.first).0 (contains_first w.set.first w.set.others.items) in
            let high = up.within (link nx.1.0 w.set.first w.reading) nx.1.2 in
            let at = s.are.place k.0 w k.1 in
            nx.0 (omega (arith, high, at, past, over))
        | inr le ↦ nothing_in (subst (λ (ws : List Waiting). Contains ws w) (s.passed k.0 le) k.1)
      ]
    ]
