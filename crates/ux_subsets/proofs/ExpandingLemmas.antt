-- The next set gets all its links.
use Rattle.std.proofs.Common.{arith, ◌≡◌, ℕ, ◌+◌, ◌<◌, ◌↔◌, ◌⊎◌, inl, inr, List, [], ◌∷◌, ◌++◌, sym, subst, ◌∙◌, length}
use Rattle.std.specs.Prelude.{Contains}
use Rattle.ux_subsets.specs.declared.automaton.Link.{Link}
use Rattle.ux_subsets.specs.declared.sets.Set.{Set}
use Rattle.ux_subsets.specs.declared.sets.Over.{Over}
use Rattle.ux_subsets.specs.declared.sets.Waiting.{Waiting}
use Rattle.ux_subsets.specs.Paths.{link, IsAscending}
use Rattle.ux_subsets.specs.Building.{states_of, seen_at, over_at, Leads, Next, IsBuilt}
use Rattle.ux_subsets.proofs.SubsetsSpellLemmas.{below_or_last}

module _ {Stands : ℕ → List ℕ → Type 0} {Satisfies : List ℕ → Type 0} (last : ℕ) (links : List Link) (up : IsAscending last links) (sets : List Set) (links' : List Link) (overs overs' : List Over)
    (Waits New Waits' : Waiting → Type 0) (n : ℕ) (built : IsBuilt Stands Satisfies last links sets links' overs Waits n) (inside : n < length sets)
    (both : (w : Waiting) → Waits' w ↔ (Waits w ⊎ New w))
    (over : (before : List ℕ) → Stands (seen_at sets n) before → (o : Over) →
    Contains overs' o ↔ (Contains overs o ⊎ ((o.from ≡ n) × Leads last links sets n o.reading last × Satisfies (before ++ o.reading ∷ []))))
    (new_sees : (w : Waiting) → New w → (before : List ℕ) → Stands (seen_at sets n) before → Stands w.set.seen (before ++ w.reading ∷ []))
    (new_from : (w : Waiting) → New w → w.from ≡ n)
    (new_set : (w : Waiting) → New w → (t : ℕ) → Contains (states_of w.set) t ↔ Next last links sets n w.reading t)
    (new_some : (w : Waiting) → New w → (t : ℕ) × Contains (states_of w.set) t)
    (new_each : (r t : ℕ) → Next last links sets n r t → (w : Waiting) × New w × (w.reading ≡ r)) where
  -- at the set itself, or before it
  at_or_before : (m : ℕ) → m < n + 1 → (m < n) ⊎ (m ≡ n)
  at_or_before m lt = below_or_last m n (omega arith)

  set_of : (w : Waiting) → Waits w ⊎ New w → (t : ℕ) → Contains (states_of w.set) t ↔ Next last links sets w.from w.reading t
  set_of w (inl old) t = built.waits_set w old t
  set_of w (inr new) t = subst (λ (m : ℕ). Contains (states_of w.set) t ↔ Next last links sets m w.reading t) (sym (new_from w new)) (new_set w new t)

  over_of : (m r : ℕ) → (m < n) ⊎ (m ≡ n) → (before : List ℕ) → Stands (seen_at sets m) before →
      Contains overs' (over_at m r) ↔ (Leads last links sets m r last × Satisfies (before ++ r ∷ []))
  over_of m r (inl lt) before stands =
      let here = built.stood n inside in (
        λ h. elim ((over here.0 here.1 (over_at m r)).0 h) [
          | inl old ↦ (built.over m r lt before stands).0 old
          | inr new ↦ let e = new.0 in absurd (omega (arith, lt, e))
        ],
        λ l. (over here.0 here.1 (over_at m r)).1 (inl ((built.over m r lt before stands).1 l)),
      )
  over_of m r (inr e) before stands =
      let at = over before (subst (λ (k : ℕ). Stands (seen_at sets k) before) e stands) (over_at m r) in (
        λ h. elim (at.0 h) [
          | inl old ↦ let b = built.over_in (over_at m r) old in absurd (omega (arith, b, e))
          | inr new ↦ (subst (λ (k : ℕ). Leads last links sets k r last) (sym e) new.1, new.2)
        ],
        λ l. at.1 (inr (e, subst (λ (k : ℕ). Leads last links sets k r last) e l.0, l.1)),
      )

  sees_of : (w : Waiting) → Waits w ⊎ New w → (before : List ℕ) → Stands (seen_at sets w.from) before → Stands w.set.seen (before ++ w.reading ∷ [])
  sees_of w (inl old) before h = built.waits_seen w old before h
  sees_of w (inr new) before h = new_sees w new before (subst (λ (m : ℕ). Stands (seen_at sets m) before) (new_from w new) h)

  going_of : (m r t : ℕ) → (m < n) ⊎ (m ≡ n) → Next last links sets m r t →
      ((k : ℕ) × Contains links' (link m k r)) ⊎ ((w : Waiting) × Waits' w × (w.from ≡ m) × (w.reading ≡ r))
  going_of m r t (inl lt) nx = elim (built.going m r t lt nx) [
    | inl k ↦ inl k
    | inr w ↦ inr (w.0, (both w.0).1 (inl w.1), w.2, w.3)
  ]
  going_of m r t (inr e) nx =
      let w = new_each r t (subst (λ (k : ℕ). Next last links sets k r t) e nx) in
      inr (w.0, (both w.0).1 (inr w.1), new_from w.0 w.1 ∙ sym e, w.2)

  apart_of : (l : Link) (w : Waiting) → Contains links' l → Waits w ⊎ New w → l.from ≡ w.from → l.reading ≡ w.reading → ⊥
  apart_of l w h (inl old) from reading = built.apart l w h old from reading
  apart_of l w h (inr new) from reading = let b = built.linked l h in let e = new_from w new in omega (arith, b.0, from, e)

  pub expanded : IsBuilt Stands Satisfies last links sets links' overs' Waits' (n + 1)
  expanded = record {
    first = built.first;
    some = built.some;
    count = omega arith;
    linked = λ l h. let b = built.linked l h in (omega (arith, b.0), b.1);
    linked_set = built.linked_set;
    waits = λ w h. elim ((both w).0 h) [
      | inl old ↦ let b = built.waits w old in omega (arith, b)
      | inr new ↦ let e = new_from w new in omega (arith, e)
    ];
    waits_set = λ w h. set_of w ((both w).0 h);
    waits_some = λ w h. elim ((both w).0 h) [ inl old ↦ built.waits_some w old | inr new ↦ new_some w new ];
    fresh = built.fresh;
    stood = built.stood;
    linked_seen = built.linked_seen;
    waits_seen = λ w h. sees_of w ((both w).0 h);
    over = λ m r lt. over_of m r (at_or_before m lt);
    over_in = λ o h. let here = built.stood n inside in elim ((over here.0 here.1 o).0 h) [
      | inl old ↦ let b = built.over_in o old in omega (arith, b)
      | inr new ↦ let e = new.0 in omega (arith, e)
    ];
    going = λ m r t lt nx. going_of m r t (at_or_before m lt) nx;
    once = built.once;
    apart = λ l w h waits from reading. apart_of l w h ((both w).0 waits) from reading;
    inside = built.inside;
    filled = built.filled;
    reached = built.reached;
  }
