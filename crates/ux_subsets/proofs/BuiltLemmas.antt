-- Steps of the building of an automaton of subsets.
use Rattle.std.proofs.Common.{arith, ◌≡◌, ℕ, ◌<◌, ◌≤◌, ◌↔◌, ◌⊎◌, inl, inr, List, [], ◌∷◌, ◌++◌, refl, sym, ap, subst, ◌∙◌, length}
use Rattle.std.specs.Prelude.{Contains}
use Rattle.std.proofs.lemmas.List.Elements.{Contains-append_left, Contains-push, Contains-push_cases}
use Rattle.ux_subsets.specs.declared.automaton.Link.{Link}
use Rattle.ux_subsets.specs.declared.sets.Set.{Set}
use Rattle.ux_subsets.specs.declared.sets.Over.{Over}
use Rattle.ux_subsets.specs.declared.sets.Waiting.{Waiting}
use Rattle.ux_subsets.specs.Paths.{link, IsAscending}
use Rattle.ux_subsets.specs.Building.{states_of, states_at, seen_at, Next, IsBuilt}
use Rattle.ux_subsets.proofs.SpellingLemmas.{Reads, spells_iff, reads_append, same_link}
use Rattle.ux_subsets.proofs.BackwardsLemmas.{weaker}
use Rattle.ux_subsets.proofs.SubsetsSpellLemmas.{below_or_last}

-- what waited gets its link, to a set that was there or is new
module _ {Stands : ℕ → List ℕ → Type 0} {Satisfies : List ℕ → Type 0} (last : ℕ) (links : List Link) (up : IsAscending last links) (sets sets' : List Set) (links' : List Link) (overs : List Over)
    (Waits Waits' : Waiting → Type 0) (expanded : ℕ) (built : IsBuilt Stands Satisfies last links sets links' overs Waits expanded)
    (w : Waiting) (waits : Waits w) (k : ℕ)
    (fewer : (x : Waiting) → Waits' x → Waits x) (split : (x : Waiting) → Waits x → Waits' x ⊎ (x ≡ w))
    (alone : (x : Waiting) → Waits' x → x.from ≡ w.from → x.reading ≡ w.reading → ⊥)
    (kept : (n : ℕ) → n < length sets → states_at sets' n ≡ states_at sets n) (more : length sets ≤ length sets')
    (one : (n : ℕ) → n < length sets' → (n < length sets) ⊎ (n ≡ k))
    (there : k < length sets') (is : states_at sets' k ≡ states_of w.set)
    (kept_seen : (n : ℕ) → n < length sets → seen_at sets' n ≡ seen_at sets n) (is_seen : seen_at sets' k ≡ w.set.seen) where
  abbrev new : Link
  new = link w.from k w.reading

  abbrev now : List Link
  now = links' ++ new ∷ []

  next_up : (n r t : ℕ) → n < length sets → Next last links sets n r t → Next last links sets' n r t
  next_up n r t lt h = (h.0, (h.1.0, subst (λ (xs : List ℕ). Contains xs h.1.0) (sym (kept n lt)) h.1.1, h.1.2))

  next_down : (n r t : ℕ) → n < length sets → Next last links sets' n r t → Next last links sets n r t
  next_down n r t lt h = (h.0, (h.1.0, subst (λ (xs : List ℕ). Contains xs h.1.0) (kept n lt) h.1.1, h.1.2))

  is_old : (n : ℕ) → n < expanded → n < length sets
  is_old n lt = let c = built.count in omega (arith, c, lt)

  waits_next : (x : Waiting) → Waits x → (t : ℕ) → Contains (states_of x.set) t ↔ Next last links sets' x.from x.reading t
  waits_next x h t = let old = is_old x.from (built.waits x h) in (
    λ c. next_up x.from x.reading t old ((built.waits_set x h t).0 c),
    λ n. (built.waits_set x h t).1 (next_down x.from x.reading t old n),
  )

  old_or_new : (l : Link) → Contains now l → Contains links' l ⊎ (new ≡ l)
  old_or_new l h = Contains-push_cases links' new l h

  new_set : (l : Link) → new ≡ l → (t : ℕ) → Contains (states_at sets' l.to) t ↔ Next last links sets' l.from l.reading t
  new_set l e t = subst (λ (x : Link). Contains (states_at sets' x.to) t ↔ Next last links sets' x.from x.reading t) e (
    λ c. (waits_next w waits t).0 (subst (λ (xs : List ℕ). Contains xs t) is c),
    λ n. subst (λ (xs : List ℕ). Contains xs t) (sym is) ((waits_next w waits t).1 n),
  )

  old_set : (l : Link) → Contains links' l → (t : ℕ) → Contains (states_at sets' l.to) t ↔ Next last links sets' l.from l.reading t
  old_set l h t =
      let b = built.linked l h in
      let same = kept l.to b.1 in
      let old = is_old l.from b.0 in (
        λ c. next_up l.from l.reading t old ((built.linked_set l h t).0 (subst (λ (xs : List ℕ). Contains xs t) same c)),
        λ n. subst (λ (xs : List ℕ). Contains xs t) (sym same) ((built.linked_set l h t).1 (next_down l.from l.reading t old n)),
      )

  before_last : (s : ℕ) → Contains (states_of w.set) s → s < last
  before_last s c =
      let n = (built.waits_set w waits s).0 c in
      let le = up.within (link n.1.0 s w.reading) n.1.2 in
      elim (below_or_last s last le) [ inl lt ↦ lt | inr e ↦ absurd (n.0 e) ]

  reads_now : (n : ℕ) → n < length sets → (v : List ℕ) × Reads now 0 n v
  reads_now n lt = let v = built.reached n lt in
      (v.0, weaker links' now (λ l h. Contains-append_left links' (new ∷ []) l h) v.0 0 n ((spells_iff links' v.0 0 n).0 v.1))

  sees_new : (l : Link) → new ≡ l → (before : List ℕ) → Stands (seen_at sets' l.from) before → Stands (seen_at sets' l.to) (before ++ l.reading ∷ [])
  sees_new l e = subst (λ (x : Link). (before : List ℕ) → Stands (seen_at sets' x.from) before → Stands (seen_at sets' x.to) (before ++ x.reading ∷ [])) e (λ before h.
      subst (λ (q : ℕ). Stands q (before ++ w.reading ∷ [])) (sym is_seen)
      (built.waits_seen w waits before (subst (λ (q : ℕ). Stands q before) (kept_seen w.from (is_old w.from (built.waits w waits))) h)))

  sees_old : (l : Link) → Contains links' l → (before : List ℕ) → Stands (seen_at sets' l.from) before → Stands (seen_at sets' l.to) (before ++ l.reading ∷ [])
  sees_old l old before h = let b = built.linked l old in
      subst (λ (q : ℕ). Stands q (before ++ l.reading ∷ [])) (sym (kept_seen l.to b.1))
      (built.linked_seen l old before (subst (λ (q : ℕ). Stands q before) (kept_seen l.from (is_old l.from b.0)) h))

  pub placed : IsBuilt Stands Satisfies last links sets' (links' ++ link w.from k w.reading ∷ []) overs Waits' expanded
  placed = record {
    first = kept 0 built.some ∙ built.first;
    some = let s = built.some in omega (arith, s, more);
    count = let c = built.count in omega (arith, c, more);
    linked = λ l h. elim (old_or_new l h) [
      | inl old ↦ let b = built.linked l old in (b.0, omega (arith, b.1, more))
      | inr e ↦ let lt = built.waits w waits in
          subst (λ (x : Link). (x.from < expanded) × (x.to < length sets')) e (lt, there)
    ];
    linked_set = λ l h. elim (old_or_new l h) [ inl old ↦ old_set l old | inr e ↦ new_set l e ];
    waits = λ x h. built.waits x (fewer x h);
    waits_set = λ x h. waits_next x (fewer x h);
    waits_some = λ x h. built.waits_some x (fewer x h);
    fresh = subst (λ (q : ℕ). Stands q []) (sym (kept_seen 0 built.some)) built.fresh;
    stood = λ n lt. elim (one n lt) [
      | inl old ↦ let u = built.stood n old in (u.0, subst (λ (q : ℕ). Stands q u.0) (sym (kept_seen n old)) u.1)
      | inr e ↦
          let u = built.stood w.from (is_old w.from (built.waits w waits)) in (
            u.0 ++ w.reading ∷ [],
            subst (λ (q : ℕ). Stands q (u.0 ++ w.reading ∷ [])) (sym (ap (seen_at sets') e ∙ is_seen)) (built.waits_seen w waits u.0 u.1),
          )
    ];
    linked_seen = λ l h. elim (old_or_new l h) [ inl old ↦ sees_old l old | inr e ↦ sees_new l e ];
    waits_seen = λ x h before stands.
        built.waits_seen x (fewer x h) before (subst (λ (q : ℕ). Stands q before) (kept_seen x.from (is_old x.from (built.waits x (fewer x h)))) stands);
    over = λ n r lt before stands.
        let o = built.over n r lt before (subst (λ (q : ℕ). Stands q before) (kept_seen n (is_old n lt)) stands) in (
          λ c. let h = o.0 c in ((h.0.0, subst (λ (xs : List ℕ). Contains xs h.0.0) (sym (kept n (is_old n lt))) h.0.1, h.0.2), h.1),
          λ h. o.1 ((h.0.0, subst (λ (xs : List ℕ). Contains xs h.0.0) (kept n (is_old n lt)) h.0.1, h.0.2), h.1),
        );
    over_in = built.over_in;
    going = λ n r t lt nx. elim (built.going n r t lt (next_down n r t (is_old n lt) nx)) [
      | inl old ↦ inl (old.0, Contains-append_left links' (new ∷ []) (link n old.0 r) old.1)
      | inr x ↦ elim (split x.0 x.1) [
        | inl still ↦ inr (x.0, still, x.2, x.3)
        | inr e ↦
            let from : w.from ≡ n = ap (λ (y : Waiting). y.from) (sym e) ∙ x.2 in
            let reading : w.reading ≡ r = ap (λ (y : Waiting). y.reading) (sym e) ∙ x.3 in
            inl (k, subst (λ (y : Link). Contains now y) (same_link w.from n k k w.reading r from refl reading) (Contains-push links' new))
      ]
    ];
    once = λ l m h h' from reading. elim (old_or_new l h) [
      | inl old ↦ elim (old_or_new m h') [
        | inl old' ↦ built.once l m old old' from reading
        | inr e' ↦ absurd (built.apart l w old waits (from ∙ ap (λ (y : Link). y.from) (sym e')) (reading ∙ ap (λ (y : Link). y.reading) (sym e')))
      ]
      | inr e ↦ elim (old_or_new m h') [
        | inl old' ↦ absurd (built.apart m w old' waits (sym from ∙ ap (λ (y : Link). y.from) (sym e)) (sym reading ∙ ap (λ (y : Link). y.reading) (sym e)))
        | inr e' ↦ ap (λ (y : Link). y.to) (sym e ∙ e')
      ]
    ];
    apart = λ l x h still from reading. elim (old_or_new l h) [
      | inl old ↦ built.apart l x old (fewer x still) from reading
      | inr e ↦ alone x still (sym (ap (λ (y : Link). y.from) e ∙ from)) (sym (ap (λ (y : Link). y.reading) e ∙ reading))
    ];
    inside = λ n s lt c. elim (one n lt) [
      | inl old ↦ built.inside n s old (subst (λ (xs : List ℕ). Contains xs s) (kept n old) c)
      | inr e ↦ before_last s (subst (λ (xs : List ℕ). Contains xs s) (ap (states_at sets') e ∙ is) c)
    ];
    filled = λ n lt. elim (one n lt) [
      | inl old ↦ let f = built.filled n old in (f.0, subst (λ (xs : List ℕ). Contains xs f.0) (sym (kept n old)) f.1)
      | inr e ↦ let f = built.waits_some w waits in (f.0, subst (λ (xs : List ℕ). Contains xs f.0) (sym (ap (states_at sets') e ∙ is)) f.1)
    ];
    reached = λ n lt. elim (one n lt) [
      | inl old ↦ let v = reads_now n old in (v.0, (spells_iff now v.0 0 n).1 v.1)
      | inr e ↦
          let v = reads_now w.from (is_old w.from (built.waits w waits)) in
          let all = reads_append now v.0 (w.reading ∷ []) 0 w.from k v.1 (k, Contains-push links' new, refl) in (
            v.0 ++ w.reading ∷ [],
            (spells_iff now (v.0 ++ w.reading ∷ []) 0 n).1
                (subst (λ (t : ℕ). Reads now 0 t (v.0 ++ w.reading ∷ [])) (sym e) all),
          )
    ];
  }
