-- The ways into states are added one after another, state after state.
use Rattle.std.proofs.Common.{arith, ◌≡◌, ◌≢◌, ◌⊎◌, inl, inr, ◌↔◌, ℕ, zero, suc, ◌+◌, ◌<◌, ◌≤◌, Bool, true, false, List, [], ◌∷◌, ◌++◌, length, refl, sym, ap, subst, ◌∙◌, cond, get_or, set}
use Rattle.std.specs.Prelude.{Contains, Some, slice_get}
use Rattle.std.specs.List.{list_any}
use Rattle.std.proofs.lemmas.List.{get_or-set_same, get_or-set_other, length_push, get_or_append_left, get_or_push}
use Rattle.std.proofs.lemmas.List.Elements.{Contains-append_left, Contains-push, Contains-push_cases}
use Rattle.std.proofs.lemmas.List.Folds.{list_any-from_Any}
use Rattle.std.proofs.lemmas.Map.Views.{Contains-from_any}
use Rattle.std.proofs.lemmas.Option.{none-some, slice_get_within}
use Rattle.indexmap.specs.IndexSet.{insert_key}
use Rattle.ux_base.proofs.Lists.{nothing_in, same_or}
use Rattle.ux_base.proofs.OrderedLists.{place_of, Contains-at}
use Rattle.ux_base.proofs.DistinctLemmas.{slice_get-append}
use Rattle.ux_net.specs.declared.state.Edge.{Edge}
use Rattle.ux_net.specs.declared.state.State.{State}
use Rattle.ux_state_places.specs.declared.arrival.Arrival.{Arrival}
use Rattle.ux_state_places.specs.declared.arrival.Kind.{Kind}
use Rattle.ux_state_places.specs.declared.arrival.Kind.TheVariants as kind
use Rattle.ux_state_places.specs.Arrivals.{arriving, hub_arrival, edge_arrival, AreArrivals, AreFirsts, HaveInsideTargets, IsPlain}
use Rattle.ux_state_places.specs.Arriving.{kinds_at, IsLedInto, IsOfOne, AreKindsInto, way_into, IsHubKind, IsWayInto, IsOneMore, AreInOrder, AreAdded, AreWaysBelow}

-- one of the elements before this place is so
abbrev pub IsOfOneBelow : {A : Type 0} → List A → (A → Type 0) → ℕ → Type 0
IsOfOneBelow {A} xs IsSo k =
    (j : ℕ) × (x : A) × (j < k) × (slice_get xs j ≡ Some x) × IsSo x

module _ {A : Type 0} (xs : List A) (IsSo : A → Type 0) where
  -- what was so or is so of the next element
  pub below_next : (Old Now After : Type 0) (k : ℕ) (x : A) → slice_get xs k ≡ Some x →
      Now ↔ (Old ⊎ IsOfOneBelow xs IsSo k) → After ↔ (Now ⊎ IsSo x) →
      After ↔ (Old ⊎ IsOfOneBelow xs IsSo (k + 1))
  below_next Old Now After k x at now after = (
    λ h. elim (after.0 h) [
      | inl n ↦ elim (now.0 n) [
        | inl o ↦ inl o
        | inr b ↦ let low = b.2 in inr (b.0, b.1, omega (arith, low), b.3, b.4)
      ]
      | inr so ↦ inr (k, x, omega arith, at, so)
    ],
    λ h. elim h [
      | inl o ↦ after.1 (inl (now.1 (inl o)))
      | inr b ↦ elim (same_or b.0 k) [
        | inl e ↦ after.1 (inr (subst IsSo (same b.0 e b.1 b.3) b.4))
        | inr n ↦ let low = b.2 in
            after.1 (inl (now.1 (inr (b.0, b.1, omega (arith, low, n), b.3, b.4))))
      ]
    ],
  )
    where
      same : (j : ℕ) → j ≡ k → (y : A) → slice_get xs j ≡ Some y → y ≡ x
      same j e y there =
          let both : Some y ≡ Some x =
          sym there ∙ (ap (λ n. slice_get xs n) e ∙ at) in cc

  -- at the end
  pub below_done : (Old Now : Type 0) (k : ℕ) → length xs ≤ k →
      Now ↔ (Old ⊎ IsOfOneBelow xs IsSo k) → Now ↔ (Old ⊎ IsOfOne xs IsSo)
  below_done Old Now k most now = (
    λ h. elim (now.0 h) [
      | inl o ↦ inl o
      | inr b ↦ inr (b.1, Contains-at xs b.1 b.0 b.3, b.4)
    ],
    λ h. elim h [
      | inl o ↦ now.1 (inl o)
      | inr s ↦
          let at = place_of xs s.0 s.1 in
          let low = slice_get_within xs at.0 s.0 at.1 in
          now.1 (inr (at.0, s.0, omega (arith, low, most), at.1, s.2))
    ],
  )

-- one more kind at the end of a row
pub row_put : (rows : List (List Kind)) (u : ℕ) (v : Kind) → u < length rows → (n : ℕ) (kind : Kind) →
    Contains (kinds_at (set rows u (kinds_at rows u ++ v ∷ [])) n) kind ↔
    (Contains (kinds_at rows n) kind ⊎ ((u ≡ n) × (v ≡ kind)))
row_put rows u v inside n kind = elim (same_or n u) [
  | inl e ↦
      let row : kinds_at (set rows u (kinds_at rows u ++ v ∷ [])) n ≡ kinds_at rows u ++ v ∷ [] =
      ap (λ m. kinds_at (set rows u (kinds_at rows u ++ v ∷ [])) m) e
      ∙ get_or-set_same rows u (kinds_at rows u ++ v ∷ []) [] inside in (
        λ h. elim (Contains-push_cases (kinds_at rows u) v kind
            (subst (λ (r : List Kind). Contains r kind) row h)) [
              | inl o ↦ inl (subst (λ m. Contains (kinds_at rows m) kind) (sym e) o)
              | inr s ↦ inr (sym e, s)
            ],
        λ h. subst (λ (r : List Kind). Contains r kind) (sym row) (elim h [
          | inl o ↦ Contains-append_left (kinds_at rows u) (v ∷ []) kind
              (subst (λ m. Contains (kinds_at rows m) kind) e o)
          | inr s ↦ subst (λ k. Contains (kinds_at rows u ++ v ∷ []) k) s.1
              (Contains-push (kinds_at rows u) v)
        ]),
      )
  | inr other ↦
      let row : kinds_at (set rows u (kinds_at rows u ++ v ∷ [])) n ≡ kinds_at rows n =
      get_or-set_other rows u n (kinds_at rows u ++ v ∷ []) [] other in (
        λ h. inl (subst (λ (r : List Kind). Contains r kind) row h),
        λ h. subst (λ (r : List Kind). Contains r kind) (sym row) (elim h [
          | inl o ↦ o
          | inr s ↦ absurd (other (sym s.0))
        ]),
      )
]

-- the kind of an edge at the end of the row of its target
pub edge_put : (rows after : List (List Kind)) (edge : Edge) → edge.target < length rows →
    after ≡ set rows edge.target (kinds_at rows edge.target ++ arriving edge.label ∷ []) →
    (n : ℕ) (kind : Kind) → Contains (kinds_at after n) kind ↔
    (Contains (kinds_at rows n) kind ⊎ IsLedInto n kind edge)
edge_put rows after edge inside is n kind =
    subst (λ (rs : List (List Kind)). Contains (kinds_at rs n) kind ↔
    (Contains (kinds_at rows n) kind ⊎ IsLedInto n kind edge)) (sym is)
    (row_put rows edge.target (arriving edge.label) inside n kind)

module _ {T : Type 0} (eq : T → T → Bool) (exact : (a b : T) → (eq a b ≡ true) ↔ (a ≡ b)) where
  -- an item is put into a set
  pub one_more : (old new : List T) (x : T) → new ≡ insert_key eq old x → IsOneMore old x new
  one_more old new x made = by (list_any (eq x) old) refl
    where
      by : (b : Bool) → list_any (eq x) old ≡ b → IsOneMore old x new
      by true e = inl (
        made ∙ ap (λ c. cond c old (old ++ x ∷ [])) e,
        Contains-from_any (λ a b. (exact a b).0) x old e,
      )
      by false e = inr (
        made ∙ ap (λ c. cond c old (old ++ x ∷ [])) e,
        λ h. absurd (let there : list_any (eq x) old ≡ true =
            list_any-from_Any (eq x) old (h.0, x, h.1, h.2, (exact x x).1 refl) in
            let n : true ≡ false = sym there ∙ e in cc),
      )

-- what stands in a list with one item more stands in the list, or is that item
pushed_cases : {X : Type 0} (xs : List X) (x : X) (i : ℕ) (y : X) →
    slice_get (xs ++ x ∷ []) i ≡ Some y →
    (slice_get xs i ≡ Some y) ⊎ ((i ≡ length xs) × (x ≡ y))
pushed_cases [] x zero y at = inr (refl, cc)
pushed_cases [] x (suc i) y at = absurd (none-some y at)
pushed_cases (z ∷ xs) x zero y at = inl at
pushed_cases (z ∷ xs) x (suc i) y at = elim (pushed_cases xs x i y at) [
  | inl there ↦ inl there
  | inr is ↦ inr (omega (arith, is.0), is.1)
]

-- a new way into the last state stands behind the others
order_pushed : (top : ℕ) (old : List Arrival) (x : Arrival) → x.state ≡ top → AreInOrder top old →
    (Contains old x → ⊥) → AreInOrder top (old ++ x ∷ [])
order_pushed top old x of_top order new = record {
  once = λ i j y a b. elim (pushed_cases old x i y a) [
    | inl p ↦ elim (pushed_cases old x j y b) [
      | inl q ↦ order.once i j y p q
      | inr q ↦ absurd (new (there i y p q.1))
    ]
    | inr p ↦ elim (pushed_cases old x j y b) [
      | inl q ↦ absurd (new (there j y q p.1))
      | inr q ↦ p.0 ∙ sym q.0
    ]
  ];
  ascend = λ i j y z a b low. elim (pushed_cases old x i y a) [
    | inl p ↦ elim (pushed_cases old x j z b) [
      | inl q ↦ order.ascend i j y z p q low
      | inr q ↦
          let inside = slice_get_within old i y p in
          let last = q.0 in
          omega (arith, inside, last)
    ]
    | inr p ↦ elim (pushed_cases old x j z b) [
      | inl q ↦
          let most = order.upto j z q in
          let same = ap (λ (w : Arrival). w.state) p.1 in
          absurd (omega (arith, most, same, of_top, low))
      | inr q ↦
          let same = ap (λ (w : Arrival). w.state) p.1 in
          let also = ap (λ (w : Arrival). w.state) q.1 in
          absurd (omega (arith, same, also, low))
    ]
  ];
  upto = λ i y a. elim (pushed_cases old x i y a) [
    | inl p ↦ order.upto i y p
    | inr p ↦
        let same = ap (λ (w : Arrival). w.state) p.1 in
        omega (arith, same, of_top)
  ];
}
  where
    there : (i : ℕ) (y : Arrival) → slice_get old i ≡ Some y → x ≡ y → Contains old x
    there i y at e = subst (λ (w : Arrival). Contains old w) (sym e) (Contains-at old y i at)

-- a way is added
pub added_one : (top : ℕ) (kind : Kind) (old new : List Arrival) → AreInOrder top old →
    IsOneMore old (way_into top kind) new →
    AreAdded top old new (λ x. way_into top kind ≡ x)
added_one top kind old new order (inl (same, there)) = record {
  order = subst (λ (xs : List Arrival). AreInOrder top xs) (sym same) order;
  kept = λ i x h. subst (λ (xs : List Arrival). slice_get xs i ≡ Some x) (sym same) h;
  gains = λ x. (
    λ h. inl (subst (λ (xs : List Arrival). Contains xs x) same h),
    λ h. subst (λ (xs : List Arrival). Contains xs x) (sym same) (elim h [
      | inl o ↦ o
      | inr e ↦ subst (λ (w : Arrival). Contains old w) e there
    ]),
  );
}
added_one top kind old new order (inr (is, apart)) = record {
  order = subst (λ (xs : List Arrival). AreInOrder top xs) (sym is)
      (order_pushed top old (way_into top kind) refl order apart);
  kept = λ i x h. subst (λ (xs : List Arrival). slice_get xs i ≡ Some x) (sym is)
      (slice_get-append old (way_into top kind ∷ []) i x h);
  gains = λ x. (
    λ h. Contains-push_cases old (way_into top kind) x
        (subst (λ (xs : List Arrival). Contains xs x) is h),
    λ h. subst (λ (xs : List Arrival). Contains xs x) (sym is) (elim h [
      | inl o ↦ Contains-append_left old (way_into top kind ∷ []) x o
      | inr e ↦ subst (λ (w : Arrival). Contains (old ++ way_into top kind ∷ []) w) e
          (Contains-push old (way_into top kind))
    ]),
  );
}

-- what was put behind others stands there
pub put_behind : (old new : List Arrival) (x : Arrival) → IsOneMore old x new →
    (Contains old x → ⊥) → slice_get new (length old) ≡ Some x
put_behind old new x (inl (same, there)) apart = absurd (apart there)
put_behind old new x (inr (is, new_one)) apart =
    subst (λ (xs : List Arrival). slice_get xs (length old) ≡ Some x) (sym is) (last old)
  where
    last : (xs : List Arrival) → slice_get (xs ++ x ∷ []) (length xs) ≡ Some x
    last [] = refl
    last (y ∷ ys) = last ys

-- what is there needn't be added
pub added_there : (top : ℕ) (kind hub : Kind) (arrivals : List Arrival) → AreInOrder top arrivals →
    Contains arrivals (way_into top hub) → kind ≡ hub →
    AreAdded top arrivals arrivals (λ x. way_into top kind ≡ x)
added_there top kind hub arrivals order there is = record {
  order = order;
  kept = λ i x h. h;
  gains = λ x. (
    λ h. inl h,
    λ h. elim h [
      | inl o ↦ o
      | inr e ↦ subst (λ (w : Arrival). Contains arrivals w)
          (ap (λ k. way_into top k) (sym is) ∙ e) there
    ],
  );
}

-- that of the next kind is added
pub added_next : (top : ℕ) (old now after : List Arrival) (kinds : List Kind) (k : ℕ) (kind : Kind) →
    slice_get kinds k ≡ Some kind →
    AreAdded top old now (λ x. IsOfOneBelow kinds (λ kind. way_into top kind ≡ x) k) →
    AreAdded top now after (λ x. way_into top kind ≡ x) →
    AreAdded top old after (λ x. IsOfOneBelow kinds (λ kind. way_into top kind ≡ x) (k + 1))
added_next top old now after kinds k kind at before next = record {
  order = next.order;
  kept = λ i x h. next.kept i x (before.kept i x h);
  gains = λ x. below_next kinds (λ kind. way_into top kind ≡ x) (Contains old x) (Contains now x)
      (Contains after x) k kind at (before.gains x) (next.gains x);
}

-- the hub and those of all kinds were added
pub added_done : (top : ℕ) (hub_kind : Kind) (old now after : List Arrival) (kinds : List Kind)
    (k : ℕ) → length kinds ≤ k → AreAdded top old now (λ x. way_into top hub_kind ≡ x) →
    AreAdded top now after (λ x. IsOfOneBelow kinds (λ kind. way_into top kind ≡ x) k) →
    AreAdded top old after (IsWayInto hub_kind kinds top)
added_done top hub_kind old now after kinds k most hub others = record {
  order = others.order;
  kept = λ i x h. others.kept i x (hub.kept i x h);
  gains = λ x.
      let all = below_done kinds (λ kind. way_into top kind ≡ x) (Contains now x)
      (Contains after x) k most (others.gains x) in (
        λ h. elim (all.0 h) [
          | inl n ↦ elim ((hub.gains x).0 n) [
            | inl o ↦ inl o
            | inr e ↦ inr (inl e)
          ]
          | inr s ↦ inr (inr s)
        ],
        λ h. elim h [
          | inl o ↦ all.1 (inl ((hub.gains x).1 (inl o)))
          | inr w ↦ elim w [
            | inl e ↦ all.1 (inl ((hub.gains x).1 (inr e)))
            | inr s ↦ all.1 (inr s)
          ]
        ],
      );
}

-- a way into a state has its number
way_state : (hub : Kind) (kinds : List Kind) (n : ℕ) (x : Arrival) → IsWayInto hub kinds n x →
    n ≡ x.state
way_state hub kinds n x (inl e) = ap (λ (w : Arrival). w.state) e
way_state hub kinds n x (inr (kind, among, e)) = ap (λ (w : Arrival). w.state) e

-- there are no ways yet
pub ways_none : (rows : List (List Kind)) → AreWaysBelow rows 0 [] [] []
ways_none rows = record {
  hubs_len = refl;
  firsts_len = refl;
  hub_kinds = λ n low. absurd (omega (arith, low));
  at = λ n low. absurd (omega (arith, low));
  begins = inl (refl, refl);
  order = record {
    once = λ i j x a b. absurd (none-some x a);
    ascend = λ i j x y a b low. absurd (none-some x a);
    upto = λ i x a. absurd (none-some x a);
  };
  gains = λ x. (λ h. absurd (nothing_in {x = x} h), λ s. let low = s.1 in absurd (omega (arith, low)));
}

-- those into the next state were added
pub ways_next : (rows : List (List Kind)) (n : ℕ) (hubs more_hubs : List Kind)
    (firsts more_firsts : List ℕ) (old new : List Arrival) (kinds : List Kind) (hub : Kind) →
    kinds ≡ kinds_at rows n → more_hubs ≡ hubs ++ hub ∷ [] →
    more_firsts ≡ firsts ++ length old ∷ [] → AreWaysBelow rows n hubs firsts old →
    IsHubKind n kinds hub → AreAdded n old new (IsWayInto hub kinds n) →
    ((Contains old (way_into n hub) → ⊥) →
    slice_get new (length old) ≡ Some (way_into n hub)) →
    AreWaysBelow rows (n + 1) more_hubs more_firsts new
ways_next rows n hubs more_hubs firsts more_firsts old new kinds hub row hubs_are firsts_are before
    is added put = record {
      hubs_len = ap (λ (l : List Kind). length l) hubs_are ∙ (length_push hubs hub
          ∙ ap (λ m. m + 1) before.hubs_len);
      firsts_len = ap (λ (l : List ℕ). length l) firsts_are ∙ (length_push firsts (length old)
          ∙ ap (λ m. m + 1) before.firsts_len);
      hub_kinds = λ m low. elim (same_or m n) [
        | inl e ↦ subst (λ k. IsHubKind k (kinds_at rows k) (get_or more_hubs k kind.Hub)) (sym e)
            (subst (λ (k : Kind). IsHubKind n (kinds_at rows n) k) (sym last_hub)
            (subst (λ (ks : List Kind). IsHubKind n ks hub) row is))
        | inr other ↦
            let less : m < n = omega (arith, low, other) in
            subst (λ (k : Kind). IsHubKind m (kinds_at rows m) k) (sym (hub_stays m less))
            (before.hub_kinds m less)
      ];
      at = λ m low. elim (same_or m n) [
        | inl e ↦ subst (λ k. slice_get new (get_or more_firsts k 0)
            ≡ Some (hub_arrival more_hubs k)) (sym e)
            (ap (λ k. slice_get new k) last_first ∙ (put apart ∙ sym last_way))
        | inr other ↦
            let less : m < n = omega (arith, low, other) in
            ap (λ k. slice_get new k) (first_stays m less)
            ∙ (added.kept (get_or firsts m 0) (hub_arrival hubs m) (before.at m less)
            ∙ sym (way_stays m less))
      ];
      begins = inr (elim before.begins [
        | inl s ↦
            let none : length old ≡ 0 = ap (λ (l : List Arrival). length l) s.1 in
            subst (λ m. slice_get new 0 ≡ Some (hub_arrival more_hubs m)) s.0
            (ap (λ k. slice_get new k) (sym none) ∙ (put apart ∙ sym last_way))
        | inr at ↦ elim (same_or n 0) [
          | inl e ↦ absurd (
              let there = Contains-at old (hub_arrival hubs 0) 0 at in
              let s = (before.gains (hub_arrival hubs 0)).0 there in
              let low = s.1 in
              omega (arith, low, e))
          | inr other ↦ added.kept 0 (hub_arrival hubs 0) at
              ∙ sym (way_stays 0 (omega (arith, other)))
        ]
      ]);
      order = record {
        once = added.order.once;
        ascend = added.order.ascend;
        upto = λ i x a. let most = added.order.upto i x a in omega (arith, most);
      };
      gains = λ x. (
        λ h. elim ((added.gains x).0 h) [
          | inl o ↦
              let s = (before.gains x).0 o in
              let low = s.1 in (
                s.0,
                omega (arith, low),
                subst (λ (k : Kind). IsWayInto k (kinds_at rows s.0) s.0 x)
                    (sym (hub_stays s.0 low)) s.2,
              )
          | inr w ↦ (
            n,
            omega arith,
            subst (λ (k : Kind). IsWayInto k (kinds_at rows n) n x) (sym last_hub)
                (subst (λ (ks : List Kind). IsWayInto hub ks n x) row w),
          )
        ],
        λ s. elim (same_or s.0 n) [
          | inl e ↦ (added.gains x).1 (inr
              (subst (λ (ks : List Kind). IsWayInto hub ks n x) (sym row)
              (subst (λ (k : Kind). IsWayInto k (kinds_at rows n) n x) last_hub
              (subst (λ m. IsWayInto (get_or more_hubs m kind.Hub) (kinds_at rows m) m x) e s.2))))
          | inr other ↦
              let low = s.1 in
              let less : s.0 < n = omega (arith, low, other) in
              (added.gains x).1 (inl ((before.gains x).1 (
                s.0,
                less,
                subst (λ (k : Kind). IsWayInto k (kinds_at rows s.0) s.0 x) (hub_stays s.0 less) s.2,
              )))
        ],
      );
    }
  where
    hub_stays : (m : ℕ) → m < n → get_or more_hubs m kind.Hub ≡ get_or hubs m kind.Hub
    hub_stays m low =
        let len = before.hubs_len in
        ap (λ (l : List Kind). get_or l m kind.Hub) hubs_are
        ∙ get_or_append_left hubs (hub ∷ []) kind.Hub m (omega (arith, low, len))

    way_stays : (m : ℕ) → m < n → Some (hub_arrival more_hubs m) ≡ Some (hub_arrival hubs m)
    way_stays m low = ap (λ k. Some (way_into m k)) (hub_stays m low)

    last_hub : get_or more_hubs n kind.Hub ≡ hub
    last_hub = ap (λ (l : List Kind). get_or l n kind.Hub) hubs_are
        ∙ get_or_push hubs hub kind.Hub n before.hubs_len

    last_way : Some (hub_arrival more_hubs n) ≡ Some (way_into n hub)
    last_way = ap (λ k. Some (way_into n k)) last_hub

    first_stays : (m : ℕ) → m < n → get_or more_firsts m 0 ≡ get_or firsts m 0
    first_stays m low =
        let len = before.firsts_len in
        ap (λ (l : List ℕ). get_or l m 0) firsts_are
        ∙ get_or_append_left firsts (length old ∷ []) 0 m (omega (arith, low, len))

    last_first : get_or more_firsts n 0 ≡ length old
    last_first = ap (λ (l : List ℕ). get_or l n 0) firsts_are
        ∙ get_or_push firsts (length old) 0 n before.firsts_len

    -- no way so far leads into this state
    apart : Contains old (way_into n hub) → ⊥
    apart h =
        let s = (before.gains (way_into n hub)).0 h in
        let low = s.1 in
        let same = way_state (get_or hubs s.0 kind.Hub) (kinds_at rows s.0) s.0 (way_into n hub) s.2 in
        absurd (omega (arith, low, same))

-- the ways into all states are those of the graph
module _ (states : List State) (rows : List (List Kind)) (hubs : List Kind) (firsts : List ℕ)
    (arrivals : List Arrival) (into : AreKindsInto states rows)
    (ways : AreWaysBelow rows (length states) hubs firsts arrivals) where
  -- the kinds of edges into a state are those of its row
  edge_so : (n : ℕ) (k : Kind) (x : Arrival) → Contains (kinds_at rows n) k → way_into n k ≡ x →
      (m : ℕ) × (state : State) × (edge : Edge) × (slice_get states m ≡ Some state)
      × Contains state.edges edge × (x ≡ edge_arrival edge)
  edge_so n k x among e =
      let (state, there, (edge, inside, (target, label))) = (into n k).0 among in
      let at = place_of states state there in (
        at.0,
        state,
        edge,
        at.1,
        inside,
        sym e ∙ (ap (λ m. way_into m k) (sym target)
            ∙ ap (λ k. way_into edge.target k) (sym label)),
      )

  -- a way into a state takes nothing, or leads along an edge
  made_so : (n : ℕ) (hub : Kind) (x : Arrival) → IsHubKind n (kinds_at rows n) hub →
      IsWayInto hub (kinds_at rows n) n x → (x.kind ≡ kind.Hub)
      ⊎ ((m : ℕ) × (state : State) × (edge : Edge) × (slice_get states m ≡ Some state)
      × Contains state.edges edge × (x ≡ edge_arrival edge))
  made_so n hub x is (inl e) = elim is [
    | inl none ↦ inl (sym (ap (λ (w : Arrival). w.kind) e) ∙ none)
    | inr only ↦ inr (edge_so n hub x only.among e)
  ]
  made_so n hub x is (inr (k, among, e)) = inr (edge_so n k x among e)

  -- the kind of a hub neither opens nor closes a context
  plain_so : (n : ℕ) (hub : Kind) → IsHubKind n (kinds_at rows n) hub → IsPlain hub
  plain_so n hub (inl e) = subst IsPlain (sym e) refl
  plain_so n hub (inr only) = only.plain

  -- where there is another way than that into the hub, the latter takes nothing
  alone_so : (n : ℕ) (hub : Kind) (x : Arrival) → IsHubKind n (kinds_at rows n) hub →
      IsWayInto hub (kinds_at rows n) n x → x ≢ way_into n hub → hub ≡ kind.Hub
  alone_so n hub x (inl e) w other = e
  alone_so n hub x (inr only) (inl e) other = absurd (other (sym e))
  alone_so n hub x (inr only) (inr (k, among, e)) other =
      absurd (other (sym e ∙ ap (λ k. way_into n k) (only.only k among)))

  -- the way into the state of a way
  way_so : (x : Arrival) → Contains arrivals x → (x.state < length states)
      × IsWayInto (get_or hubs x.state kind.Hub) (kinds_at rows x.state) x.state x
  way_so x h =
      let s = (ways.gains x).0 h in
      let same = way_state (get_or hubs s.0 kind.Hub) (kinds_at rows s.0) s.0 x s.2 in (
        subst (λ n. n < length states) same s.1,
        subst (λ n. IsWayInto (get_or hubs n kind.Hub) (kinds_at rows n) n x) same s.2,
      )

  pub are_arrivals : 0 < length states → HaveInsideTargets states →
      AreArrivals states hubs arrivals
  are_arrivals some targets = record {
    count = ways.hubs_len;
    start = elim ways.begins [
      | inl s ↦ let none = s.0 in absurd (omega (arith, none, some))
      | inr at ↦ at
    ];
    first = elim (ways.hub_kinds 0 some) [
      | inl e ↦ e
      | inr only ↦ absurd (only.later refl)
    ];
    plain = λ n low. plain_so n (get_or hubs n kind.Hub) (ways.hub_kinds n low);
    alone = λ i x a other.
        let w = way_so x (Contains-at arrivals x i a) in
        alone_so x.state (get_or hubs x.state kind.Hub) x (ways.hub_kinds x.state w.0) w.1 other;
    once = ways.order.once;
    inside = λ i x a. (way_so x (Contains-at arrivals x i a)).0;
    ascend = ways.order.ascend;
    hubs = λ n low. (ways.gains (hub_arrival hubs n)).1 (n, low, inl refl);
    edges = λ n state edge found among. (ways.gains (edge_arrival edge)).1 (
      edge.target,
      targets n state edge found among,
      inr (
        arriving edge.label,
        (into edge.target (arriving edge.label)).1
            (state, Contains-at states state n found, (edge, among, (refl, refl))),
        refl,
      ),
    );
    made = λ i x a.
        let w = way_so x (Contains-at arrivals x i a) in
        made_so x.state (get_or hubs x.state kind.Hub) x (ways.hub_kinds x.state w.0) w.1;
  }

  pub are_firsts : AreFirsts hubs arrivals firsts
  are_firsts = record {
    len = ways.firsts_len ∙ sym ways.hubs_len;
    at = λ n low. let len = ways.hubs_len in ways.at n (omega (arith, low, len));
  }
