-- Closing the last group, when no target of its edges is left ahead, keeps the state of the search.
use Rattle.std.proofs.Common.{arith, ◌≡◌, ℕ, zero, suc, ◌+◌, ◌<◌, ◌≤◌, List, [], ◌∷◌, ◌++◌, refl, sym, ◌∙◌, ap, subst, ◌⊎◌, inl, inr, length, get_or, take}
use Rattle.std.specs.Prelude.{Contains}
use Rattle.std.proofs.lemmas.List.Elements.{Contains-append_left, Contains-push, Contains-push_cases}
use Rattle.ux_base.proofs.Lists.{less_or}
use Rattle.ux_digraph.proofs.GroupsLemmas.{rises_split, last_is_latest}
use Rattle.ux_digraph.proofs.MarksLemmas.{same_place, same_number, new_is_not_open, new_is_not_done, open_is_not_done}
use Rattle.ux_digraph.specs.declared.grouping.Mark.{Mark}
use Rattle.ux_digraph.specs.declared.grouping.Mark.TheVariants.{New, Open, Done}
use Rattle.ux_digraph.specs.declared.grouping.Group.{Group}
use Rattle.ux_digraph.specs.Paths.{row_of, Reaches}
use Rattle.ux_digraph.specs.Grouping.{mark_at, IsBehind, Opened, Settled, Searching, AreNumbered}

take_len : (xs : List ℕ) (n : ℕ) → n ≤ length xs → length (take n xs) ≡ n
take_len xs zero h = refl
take_len [] (suc n) h = absurd (omega arith)
take_len (x ∷ xs) (suc n) h = ap suc (take_len xs n (omega arith))

take_at : (xs : List ℕ) (n i : ℕ) → i < n → get_or (take n xs) i 0 ≡ get_or xs i 0
take_at xs zero i h = absurd (omega arith)
take_at [] (suc n) i h = refl
take_at (x ∷ xs) (suc n) zero h = refl
take_at (x ∷ xs) (suc n) (suc i) h = take_at xs n i (omega arith)

module _ (edges : List (List ℕ)) (marks new : List Mark) (trail ahead : List ℕ)
    (gs : List Group) (g : Group) (count : ℕ)
    (s : Searching edges marks trail ahead (gs ++ g ∷ []) count)
    (none : length ahead ≡ g.ahead)
    (n : AreNumbered marks g.first (length trail) count new) where
  abbrev o : Opened edges marks trail ahead (gs ++ g ∷ []) (λ v. ⊥)
  o = s.opened

  some : g.first < length trail
  some = (o.bounded g (Contains-push gs g)).0

  len : length (take g.first trail) ≡ g.first
  len = take_len trail g.first (let l = some in omega arith)

  -- what had the mark before
  was_done : (u k : ℕ) → mark_at new u ≡ Done k → (mark_at marks u ≡ Done k)
      ⊎ ((k ≡ count) × (i : ℕ) × (mark_at marks u ≡ Open i) × (g.first ≤ i))
  was_done u k e = go (mark_at marks u) refl
    where
      go : (m : Mark) → mark_at marks u ≡ m → (mark_at marks u ≡ Done k)
          ⊎ ((k ≡ count) × (i : ℕ) × (mark_at marks u ≡ Open i) × (g.first ≤ i))
      go New is = absurd (new_is_not_done (sym (n.fresh u is) ∙ e))
      go (Done j) is = inl (is ∙ (sym (n.done u j is) ∙ e))
      go (Open i) is = elim (less_or i g.first) [
        | inl l ↦ absurd (open_is_not_done (sym (n.before u i is l) ∙ e))
        | inr l ↦
            let at = (o.places.listed u i is).0 in
            inr (same_number (sym e ∙ n.high u i is l at), i, is, l)
      ]

  was_open : (u i : ℕ) → mark_at new u ≡ Open i → (mark_at marks u ≡ Open i) × (i < g.first)
  was_open u i e = go (mark_at marks u) refl
    where
      go : (m : Mark) → mark_at marks u ≡ m → (mark_at marks u ≡ Open i) × (i < g.first)
      go New is = absurd (new_is_not_open (sym (n.fresh u is) ∙ e))
      go (Done j) is = absurd (open_is_not_done (sym e ∙ n.done u j is))
      go (Open j) is = elim (less_or j g.first) [
        | inl l ↦
            let same : j ≡ i = same_place (sym (n.before u j is l) ∙ e) in
            (is ∙ ap (λ k. Open k) same, omega arith)
        | inr l ↦ absurd (open_is_not_done (sym e
            ∙ n.high u j is l (o.places.listed u j is).0))
      ]

  -- the nodes of the group lead to nodes that are done now
  group_falls : (u i : ℕ) → mark_at marks u ≡ Open i → g.first ≤ i → (v : ℕ) →
      Contains (row_of edges u) v → (j : ℕ) × (mark_at new v ≡ Done j) × (j ≤ count)
  group_falls u i is l v c =
      let at = o.places.listed u i is in
      elim (o.children i at.0 v (subst (λ x. Contains (row_of edges x) v) (sym at.1) c)) [
        | inl x ↦ elim x [
          | inl b ↦ elim b [
            | inl d ↦ let less = s.settled.below v d.0 d.1 in
                (d.0, n.done v d.0 d.1, omega arith)
            | inr a ↦ (
              count,
              n.high v a.0 a.1 (a.2 g (Contains-push gs g) l) (o.places.listed v a.0 a.1).0,
              omega arith,
            )
          ]
          | inr a ↦
              let high = (a.3 g (Contains-push gs g)).0 l in
              let low = a.1 in absurd (omega arith)
        ]
        | inr never ↦ absurd never
      ]

  group_joined : (u v i j : ℕ) → mark_at marks u ≡ Open i → mark_at marks v ≡ Open j →
      g.first ≤ j → Reaches edges u v
  group_joined u v i j e d l =
      let a = o.places.listed u i e in
      let b = o.places.listed v j d in
      subst (λ x. Reaches edges x v) a.1 (subst (λ x. Reaches edges (get_or trail i 0) x) b.1
      (o.leads i j a.0 b.0 (λ h c low.
      let first = (last_is_latest gs g o.rises h c).0 in omega arith)))

  settled : Settled edges new (count + 1)
  settled = record {
    len = n.len ∙ s.settled.len;
    room =
        let sum = n.left in
        let old = s.settled.room in
        let l = some in omega arith;
    below = λ u k e. elim (was_done u k e) [
      | inl d ↦ let l = s.settled.below u k d in omega arith
      | inr d ↦ let same = d.0 in omega arith
    ];
    falls = λ u k e v c. elim (was_done u k e) [
      | inl d ↦ let f = s.settled.falls u k d v c in (f.0, n.done v f.0 f.1, f.2)
      | inr d ↦
          let same = d.0 in
          let f = group_falls u d.1 d.2 d.3 v c in
          let least = f.2 in (f.0, f.1, omega arith)
    ];
    joined = λ u v k eu ev. elim (was_done u k eu) [
      | inl a ↦ elim (was_done v k ev) [
        | inl b ↦ s.settled.joined u v k a b
        | inr b ↦ let l = s.settled.below u k a in let same = b.0 in absurd (omega arith)
      ]
      | inr a ↦ elim (was_done v k ev) [
        | inl b ↦ let l = s.settled.below v k b in let same = a.0 in absurd (omega arith)
        | inr b ↦ group_joined u v a.1 b.1 a.2 b.2 b.3
      ]
    ];
  }

  still_behind : (i v : ℕ) → IsBehind marks (gs ++ g ∷ []) i v → IsBehind new gs i v
  still_behind i v b = elim b [
    | inl d ↦ inl (d.0, n.done v d.0 d.1)
    | inr a ↦ elim (less_or a.0 g.first) [
      | inl l ↦ inr (
        a.0,
        n.before v a.0 a.1 l,
        λ h c low. a.2 h (Contains-append_left gs (g ∷ []) h c) low,
      )
      | inr l ↦ inl (count, n.high v a.0 a.1 l (o.places.listed v a.0 a.1).0)
    ]
  ]

  opened : Opened edges new (take g.first trail) ahead gs (λ v. ⊥)
  opened = record {
    places = record {
      placed = λ i h.
          let l = len in
          let m : i < g.first = omega arith in
          let first = some in
          ap (mark_at new) (take_at trail g.first i m)
          ∙ n.before (get_or trail i 0) i (o.places.placed i (omega arith)) m;
      listed = λ u i e.
          let w = was_open u i e in
          let l = w.1 in
          let m = len in
          (omega arith, take_at trail g.first i l ∙ (o.places.listed u i w.0).1);
    };
    leads = λ i j hi hj level.
        let l = len in
        let first = some in
        let li : i < g.first = omega arith in
        let lj : j < g.first = omega arith in
        subst (λ x. Reaches edges x (get_or (take g.first trail) j 0))
        (sym (take_at trail g.first i li))
        (subst (λ x. Reaches edges (get_or trail i 0) x) (sym (take_at trail g.first j lj))
        (o.leads i j (omega arith) (omega arith) (λ h c low.
        elim (Contains-push_cases gs g h c) [
          | inl d ↦ level h d low
          | inr e ↦ let same : g.first ≡ h.first = ap (λ (z : Group). z.first) e in
              absurd (omega arith)
        ])));
    children = λ i h v e.
        let l = len in
        let first = some in
        let m : i < g.first = omega arith in
        elim (o.children i (omega arith) v
        (subst (λ x. Contains (row_of edges x) v) (take_at trail g.first i m) e)) [
          | inl x ↦ elim x [
            | inl b ↦ inl (inl (still_behind i v b))
            | inr a ↦ inl (inr (
              a.0,
              a.1,
              a.2,
              λ h c. a.3 h (Contains-append_left gs (g ∷ []) h c),
            ))
          ]
          | inr never ↦ absurd never
        ];
    source = λ t h.
        let l = len in
        let q = o.source t h in
        elim (less_or q.0 g.first) [
          | inl m ↦ (
            q.0,
            omega arith,
            subst (λ x. Contains (row_of edges x) (get_or ahead t 0))
                (sym (take_at trail g.first q.0 m)) q.2,
            λ h c. q.3 h (Contains-append_left gs (g ∷ []) h c),
          )
          | inr m ↦
              let high = (q.3 g (Contains-push gs g)).0 m in
              absurd (omega arith)
        ];
    rises = (rises_split gs g o.rises).0;
    bounded = λ h c.
        let l = len in
        let below = ((rises_split gs g o.rises).1 h c).0 in
        (omega arith, (o.bounded h (Contains-append_left gs (g ∷ []) h c)).1);
    bottom = λ h.
        let l = len in
        let first = some in
        let b = o.bottom (omega arith) in
        let zero = b.2 in
        elim (Contains-push_cases gs g b.0 b.1) [
          | inl c ↦ (b.0, c, b.2)
          | inr e ↦ let same : g.first ≡ b.0.first = ap (λ (z : Group). z.first) e in
              absurd (omega arith)
        ];
  }

  pub group_closed : Searching edges new (take g.first trail) ahead gs (count + 1)
  group_closed = record { settled = settled; opened = opened }
