-- Entries by rank: what stands before what, and the rows that number them.
use Rattle.std.proofs.Common.{arith, ◌≡◌, ℕ, zero, suc, ◌+◌, ◌*◌, ◌<◌, ◌≤◌, ◌≢◌, List, [], ◌∷◌, ◌++◌, ◌⊎◌, inl, inr, refl, sym, ap, subst, ◌∙◌, length, get_or, take, append_assoc, Bool, true, false, cond}
use Rattle.std.specs.Prelude.{Contains, Option, Some, None, slice_get, sum_by, IsSomeAnd, nat_eq, ◌&&◌}
use Rattle.std.specs.Ordering.{nat_cmp, ordering_then, eq_by_cmp, is_lt}
use Rattle.std.specs.declared.cmp.Ordering.TheVariants.{Less, Equal}
use Rattle.std.specs.Cmp.{IsEquivalence, IsTotalOrder, nat_cmp_is, nat_cmp_total, on_total, then_total, both_tied, tied_itself, eq_by_cmp_equiv, unsigned_ties}
use Rattle.std.proofs.Math.Nat.{mul-le-mul_left}
use Rattle.std.specs.List.{AllAdjacentBelow, flat_map, range_with_len}
use Rattle.std.specs.List.Sorted.{IsStrictlySortedBy}
use Rattle.std.proofs.lemmas.Bool.{eqb-true}
use Rattle.std.proofs.lemmas.List.{get_or_past}
use Rattle.std.proofs.lemmas.List.Sorted.{IsNonDecreasingBy-from_all_adjacent, Contains-permutation, IsPermutation-sym}
use Rattle.std.proofs.lemmas.List.Sums.{get_or-le-sum_by}
use Rattle.std.proofs.lemmas.List.Elements.{Contains-get_or}
use Rattle.std.proofs.lemmas.List.Kept.{Contains-dedup, Contains-from_dedup, IsStrictlySortedBy-dedup}
use Rattle.std.proofs.lemmas.Map.Keys.{Less-from_sorted}
use Rattle.std.proofs.lemmas.Option.{same_Some, slice_get_within, get_or_from_slice_get}
use Rattle.ux_net.specs.declared.net_graph.NetGraph.{NetGraph}
use Rattle.ux_net.specs.declared.net_graph.Rank.{Rank}
use Rattle.ux_net.specs.declared.state.Edge.{Edge}
use Rattle.ux_net.specs.declared.state.State.{State}
use Rattle.ux_net.specs.Nets.{graph_at, states_of}
use Rattle.ux_net.specs.Measured.{width_of, weigh, rank_in, rank_of}
use Rattle.ux_base.proofs.Lists.{nothing_in, less_or, first_or_later, same_or, take_more}
use Rattle.ux_base.proofs.JoinedLists.{contains_joined, contained_joined, contains_range, contained_range, joined_push}
use Rattle.ux_parts.proofs.Deduped.{lighter_first}
use Rattle.ux_parts.specs.Order.{Entry, ranks_in, rank_at, entry_of, is_opening, entries_by, entries_from, entries_at, all_entries, entry_cmp, same_entry, IsOrderOf, IsPut, AreNumbers}
use Rattle.ux_parts.specs.Parts.{number_in}

-- the rank of what has none
abbrev lowest : Rank
lowest = record { major = 0; minor = 0 }

-- the entry that a net answers
pub entry_is : (net : List NetGraph) (g state : ℕ) (rank : Rank) →
    IsSomeAnd (graph_at net g)
    (λ x. rank ≡ get_or x.ranks state (record { major = 0; minor = 0 })) →
    rank ≡ rank_at net g state
entry_is net g state rank told = by (graph_at net g) told
  where
    by : (o : Option NetGraph) → IsSomeAnd o (λ x. rank ≡ get_or x.ranks state lowest) →
        rank ≡ get_or (ranks_in o) state lowest
    by None t = absurd t
    by (Some graph) t = t

-- a minor number is no larger than the width
minor_fits : (ranks : List Rank) (state : ℕ) →
    (get_or ranks state lowest).minor ≤ sum_by (λ (r : Rank). r.minor) ranks
minor_fits ranks state = elim (less_or state (length ranks)) [
  | inl within ↦ get_or-le-sum_by (λ (r : Rank). r.minor) ranks state lowest within
  | inr past ↦
      let none = ap (λ (r : Rank). r.minor) (get_or_past ranks state lowest past) in
      omega (arith, none)
]

-- the minor number of a state is no larger than the width of the net
small : (net : List NetGraph) (g state : ℕ) → (rank_at net g state).minor ≤ width_of net
small net g state = by (graph_at net g) refl
  where
    width_fits : (g : ℕ) (graph : NetGraph) → graph_at net g ≡ Some graph →
        sum_by (λ (r : Rank). r.minor) graph.ranks ≤ width_of net
    width_fits zero graph found = cc
    width_fits (suc g) graph found =
        let in_net = slice_get_within net g graph found in
        let same = get_or_from_slice_get net g graph graph found in
        let one =
        get_or-le-sum_by (λ (x : NetGraph). sum_by (λ (r : Rank). r.minor) x.ranks) net g graph
        in_net in
        let is = ap (λ (x : NetGraph). sum_by (λ (r : Rank). r.minor) x.ranks) same in
        omega (arith, one, is)

    by : (o : Option NetGraph) → graph_at net g ≡ o →
        (get_or (ranks_in o) state lowest).minor ≤ width_of net
    by None is =
        let none = ap (λ (r : Rank). r.minor) (get_or_past {X = Rank} [] state lowest (omega arith)) in
        omega (arith, none)
    by (Some graph) is =
        let fits = minor_fits graph.ranks state in
        let wide = width_fits g graph is in
        omega (arith, fits, wide)

-- the weight of an entry
abbrev weight : List NetGraph → Entry → ℕ
weight net entry = weigh (width_of net) (record { major = entry.0; minor = entry.1 })

-- that of a state is its rank
pub weight_is : (net : List NetGraph) (g state : ℕ) →
    weight net (entry_of net g state) ≡ rank_of net g state
weight_is net g state = by (graph_at net g)
  where
    by : (o : Option NetGraph) →
        weigh (width_of net) (get_or (ranks_in o) state lowest) ≡ rank_in (width_of net) o state
    by None =
        ap (weigh (width_of net)) (get_or_past {X = Rank} [] state lowest (omega arith))
        ∙ omega arith
    by (Some graph) = refl

-- a lower weight has a lower major number, or the same and a lower minor one
lower_major : (width a b c d : ℕ) → d ≤ width → a * (width + 1) + c < b * (width + 1) + d →
    (a < b) ⊎ ((a ≡ b) × (c < d))
lower_major width a b c d fits lt = elim (less_or a b) [
  | inl l ↦ inl l
  | inr m ↦ elim (less_or b a) [
    | inl l ↦
        let high : b + 1 ≤ a = omega arith in
        let most = mul-le-mul_left (width + 1) high in
        absurd (omega (arith, most, fits, lt))
    | inr n ↦
        let e : a ≡ b = omega arith in
        let same = ap (λ k. k * (width + 1)) e in
        inr (e, omega (arith, same, lt))
  ]
]

-- what weighs less comes first
lower_first : (net : List NetGraph) (x y : Entry) → y.1 ≤ width_of net →
    weight net x < weight net y → is_lt (entry_cmp x y) ≡ true
lower_first net x y fits lt =
    elim (lower_major (width_of net) x.0 y.0 x.1 y.1 fits lt) [
      | inl l ↦ ap (λ o. is_lt (ordering_then (ordering_then
          (ordering_then o (nat_cmp x.1 y.1)) (nat_cmp x.2 y.2)) (nat_cmp x.3 y.3)))
          (sym (nat_cmp_is x.0 y.0 Less l))
      | inr e ↦ ap (λ o. is_lt (ordering_then (ordering_then
          (ordering_then o (nat_cmp x.1 y.1)) (nat_cmp x.2 y.2)) (nat_cmp x.3 y.3)))
          (sym (nat_cmp_is x.0 y.0 Equal e.0))
          ∙ ap (λ o. is_lt (ordering_then (ordering_then o (nat_cmp x.2 y.2)) (nat_cmp x.3 y.3)))
          (sym (nat_cmp_is x.1 y.1 Less e.1))
    ]

-- entries that are the same are one
same_is : (x y : Entry) → same_entry x y ≡ true → x ≡ y
same_is x y h =
    let a = both ((nat_eq x.0 y.0 && nat_eq x.1 y.1) && nat_eq x.2 y.2) (nat_eq x.3 y.3) h in
    let b = both (nat_eq x.0 y.0 && nat_eq x.1 y.1) (nat_eq x.2 y.2) a.0 in
    let c = both (nat_eq x.0 y.0) (nat_eq x.1 y.1) b.0 in
    parts (eqb-true x.0 y.0 c.0) (eqb-true x.1 y.1 c.1) (eqb-true x.2 y.2 b.1)
    (eqb-true x.3 y.3 a.1)
  where
    both : (a b : Bool) → (a && b) ≡ true → (a ≡ true) × (b ≡ true)
    both true b h = (refl, h)
    both false b h = cc

    parts : x.0 ≡ y.0 → x.1 ≡ y.1 → x.2 ≡ y.2 → x.3 ≡ y.3 → x ≡ y
    parts a b c d = λ i. (a i, b i, c i, d i)

-- entries are totally ordered, and those that tie are the same
entry_total : IsTotalOrder entry_cmp
entry_total = then_total (then_total (then_total
    (on_total (λ (x : Entry). x.0) nat_cmp_total) (on_total (λ (x : Entry). x.1) nat_cmp_total))
    (on_total (λ (x : Entry). x.2) nat_cmp_total)) (on_total (λ (x : Entry). x.3) nat_cmp_total)

-- two tie exactly where they are the same
entry_ties : (x y : Entry) → same_entry x y ≡ eq_by_cmp entry_cmp x y
entry_ties x y = both_tied _ _ _ _ (both_tied _ _ _ _ (both_tied _ _ _ _
    (unsigned_ties x.0 y.0) (unsigned_ties x.1 y.1)) (unsigned_ties x.2 y.2))
    (unsigned_ties x.3 y.3)

-- being the same is an equivalence
entry_equal : IsEquivalence same_entry
entry_equal = subst IsEquivalence (λ i x y. sym (entry_ties x y) i) (eq_by_cmp_equiv entry_total)

-- The entries of a net, in order.
module _ (net : List NetGraph) (order : List Entry)
    (is : IsOrderOf (all_entries net (length net)) order) where
  -- each is that of a state of a graph that is there
  pub record IsThere (entry : Entry) : Type 0 where
    pub from : 1 ≤ entry.2
    pub to : entry.2 ≤ length net
    pub of_state : entry ≡ entry_of net entry.2 entry.3

  there_of : (g state : ℕ) (entry : Entry) → 1 ≤ g → g ≤ length net →
      entry_of net g state ≡ entry → IsThere entry
  there_of g state entry from to is = subst IsThere is (record { from = from; to = to; of_state = refl })

  by_edges : (g : ℕ) (entry : Entry) → 1 ≤ g → g ≤ length net →
      Contains (entries_at net g) entry → IsThere entry
  by_edges g entry from to h =
      elim (first_or_later (entry_of net g 0) (flat_map (entries_from net g) (states_of net g))
      entry h) [
        | inl e ↦ there_of g 0 entry from to e
        | inr later ↦
            let s = contained_joined (entries_from net g) (states_of net g) entry later in
            let e = contained_joined (entries_by net g) s.0.edges entry s.2 in
            go e.0 (is_opening e.0.label) e.2
      ]
    where
      go : (edge : Edge) (t : Bool) →
          Contains (cond t (entry_of net g edge.target ∷ []) []) entry → IsThere entry
      go edge true h = elim (first_or_later (entry_of net g edge.target) [] entry h) [
        | inl e ↦ there_of g edge.target entry from to e
        | inr none ↦ absurd (nothing_in none)
      ]
      go edge false h = absurd (nothing_in h)

  -- each of all entries is that of a state
  among_all : (entry : Entry) → Contains (all_entries net (length net)) entry → IsThere entry
  among_all entry h =
      let k = contained_joined (λ k. entries_at net (k + 1)) (range_with_len 0 (length net))
      entry h in
      let lt = contained_range (length net) k.0 k.1 in
      by_edges (k.0 + 1) entry (omega arith) (omega (arith, lt)) k.2

  -- and so is each that is sorted
  among_sorted : (entry : Entry) → Contains is.sorted entry → IsThere entry
  among_sorted entry h = among_all entry
      (Contains-permutation is.sorted (all_entries net (length net)) entry
      (IsPermutation-sym (all_entries net (length net)) is.sorted is.permutation) h)

  -- and each of the order
  pub among : (entry : Entry) → Contains order entry → IsThere entry
  among entry h = among_sorted entry (Contains-from_dedup same_entry is.sorted entry
      (subst (λ (l : List Entry). Contains l entry) is.is h))

  -- each entry of all is in the order
  pub in_order : (entry : Entry) → Contains (all_entries net (length net)) entry →
      Contains order entry
  in_order entry h =
      subst (λ (l : List Entry). Contains l entry) (sym is.is)
      (Contains-dedup entry_equal same_is is.sorted entry
      (Contains-permutation (all_entries net (length net)) is.sorted entry is.permutation h))

  -- so each entry of a graph is in the order
  pub graph_entry : (g : ℕ) → 1 ≤ g → g ≤ length net → (entry : Entry) →
      Contains (entries_at net g) entry → Contains order entry
  graph_entry zero from to entry h = absurd (omega (arith, from))
  graph_entry (suc k) from to entry h = in_order entry
      (contains_joined (λ k. entries_at net (k + 1)) (range_with_len 0 (length net)) k entry
      (contains_range (length net) k (omega (arith, to)))
      (let e : k + 1 ≡ suc k = omega arith in
      subst (λ n. Contains (entries_at net n) entry) (sym e) h))

  -- no entry stands at two places
  pub one_place : (u v : ℕ) (x : Entry) → slice_get order u ≡ Some x →
      slice_get order v ≡ Some x → u ≡ v
  one_place u v x at_u at_v = elim (less_or u v) [
    | inl less ↦ absurd (later u v less at_u at_v)
    | inr no_less ↦ elim (less_or v u) [
      | inl less ↦ absurd (later v u less at_v at_u)
      | inr no_more ↦ omega (arith, no_less, no_more)
    ]
  ]
    where
      later : (a b : ℕ) → a < b → slice_get order a ≡ Some x → slice_get order b ≡ Some x → ⊥
      later a b less at_a at_b =
          let strict : IsStrictlySortedBy entry_cmp order =
          subst (IsStrictlySortedBy entry_cmp) (sym is.is)
          (IsStrictlySortedBy-dedup entry_total entry_ties is.sorted is.ascends) in
          let below : entry_cmp (get_or order a x) (get_or order b x) ≡ Less =
          Less-from_sorted entry_cmp order a b x strict less (slice_get_within order b x at_b) in
          let same_a = get_or_from_slice_get order a x x at_a in
          let same_b = get_or_from_slice_get order b x x at_b in
          let itself : entry_cmp x x ≡ Less =
          subst (λ (t : Entry). entry_cmp x t ≡ Less) same_b
          (subst (λ (t : Entry). entry_cmp t (get_or order b x) ≡ Less) same_a below) in
          let tied : Equal ≡ Less = sym (tied_itself entry_total x) ∙ itself in
          let never : ⊥ = cc in
          never

  -- the minor number of an entry is no larger than the width
  fits : (entry : Entry) → IsThere entry → entry.1 ≤ width_of net
  fits entry there =
      let e = ap (λ (x : Entry). x.1) there.of_state in
      let s = small net entry.2 entry.3 in
      omega (arith, e, s)

  -- neighbours do not fall
  neighbours : AllAdjacentBelow (λ x y. weight net x ≤ weight net y) is.sorted (length is.sorted)
  neighbours k d inside = elim (less_or (weight net (get_or is.sorted (k + 1) d))
      (weight net (get_or is.sorted k d))) [
        | inl l ↦
            let there = among_sorted (get_or is.sorted k d)
            (Contains-get_or is.sorted k d (omega (arith, inside))) in
            let first = lower_first net (get_or is.sorted (k + 1) d) (get_or is.sorted k d)
            (fits (get_or is.sorted k d) there) l in
            let never = is.ascends k d (omega arith) inside in
            absurd (let no : true ≡ false = sym first ∙ never in let none : ⊥ = cc in none)
        | inr m ↦ m
      ]

  -- an entry weighs what its state ranks
  rank_here : (entry : Entry) → IsThere entry →
      weight net entry ≡ rank_of net entry.2 entry.3
  rank_here entry there =
      ap (weight net) there.of_state ∙ weight_is net entry.2 entry.3

  -- what ranks lower stands before
  pub by_rank : (u v : ℕ) (x y : Entry) → slice_get order u ≡ Some x →
      slice_get order v ≡ Some y →
      rank_of net x.2 x.3 < rank_of net y.2 y.3 → u < v
  by_rank u v x y at_u at_v lower =
      let here = rank_here x (among x (at order u x at_u)) in
      let there = rank_here y (among y (at order v y at_v)) in
      lighter_first same_entry (weight net) is.sorted
      (IsNonDecreasingBy-from_all_adjacent (weight net) is.sorted neighbours) u v x y
      (subst (λ (l : List Entry). slice_get l u ≡ Some x) is.is at_u)
      (subst (λ (l : List Entry). slice_get l v ≡ Some y) is.is at_v)
      (omega (arith, here, there, lower))
    where
      at : (l : List Entry) (i : ℕ) (x : Entry) → slice_get l i ≡ Some x → Contains l x
      at l i x h = (i, slice_get_within l i x h, get_or_from_slice_get l i x x h)

-- what a loop over the states of a graph has added, one turn later
pub states_more : (net : List NetGraph) (g k : ℕ) (edges : List Edge)
    (front now new : List Entry) →
    IsSomeAnd (slice_get (states_of net g) k) (λ (s : State). edges ≡ s.edges) →
    now ≡ front ++ flat_map (entries_from net g) (take k (states_of net g)) →
    new ≡ now ++ flat_map (entries_by net g) edges →
    new ≡ front ++ flat_map (entries_from net g) (take (k + 1) (states_of net g))
states_more net g k edges front now new told is pushed = by (slice_get (states_of net g) k) refl told
  where
    by : (o : Option State) → slice_get (states_of net g) k ≡ o →
        IsSomeAnd o (λ (s : State). edges ≡ s.edges) →
        new ≡ front ++ flat_map (entries_from net g) (take (k + 1) (states_of net g))
    by None e t = absurd t
    by (Some state) e t =
        let states = states_of net g in
        let before = flat_map (entries_from net g) (take k states) in
        let lt = slice_get_within states k state e in
        let at = get_or_from_slice_get states k state state e in
        pushed
        ∙ (ap (λ (l : List Entry). l ++ flat_map (entries_by net g) edges) is
        ∙ (ap (λ (l : List Edge). (front ++ before) ++ flat_map (entries_by net g) l) t
        ∙ (append_assoc front before (entries_from net g state)
        ∙ (ap (λ (l : List Entry). front ++ l)
        (sym (joined_push (entries_from net g) (take k states) state))
        ∙ ap (λ (l : List State). front ++ flat_map (entries_from net g) l)
        (ap (λ (s : State). take k states ++ s ∷ []) (sym at) ∙ sym (take_more states k state lt))))))

-- rows without a number
pub numbers_none : (order : List Entry) (rows : List (List (Option ℕ))) →
    ((g : ℕ) → get_or rows g [] ≡ []) → AreNumbers order 0 rows
numbers_none order rows none = record {
  right = λ g state number h. absurd (empty g state number h);
  each = λ place entry h. absurd (omega arith);
}
  where
    empty : (g state number : ℕ) → number_in rows g state ≡ Some number → ⊥
    empty zero state number h = cc
    empty (suc g) state number h =
        let never : None ≡ Some number =
        subst (λ (l : List (Option ℕ)). get_or l state None ≡ Some number) (none g) h in
        cc

-- one number more
pub numbers_more : (order : List Entry) (place : ℕ) (entry : Entry)
    (rows new : List (List (Option ℕ))) → slice_get order place ≡ Some entry →
    IsPut rows new entry.2 entry.3 place → AreNumbers order place rows →
    AreNumbers order (place + 1) new
numbers_more order place entry rows new there is old = record {
  right = λ g state number told. right g state number told (same_or g entry.2)
      (same_or state entry.3);
  each = λ p other lt at. each p other lt at (same_or other.2 entry.2)
      (same_or other.3 entry.3);
}
  where
    right : (g state number : ℕ) → number_in new g state ≡ Some number →
        (g ≡ entry.2) ⊎ (g ≢ entry.2) → (state ≡ entry.3) ⊎ (state ≢ entry.3) →
        (e : Entry) × (slice_get order number ≡ Some e) × (e.2 ≡ g) × (e.3 ≡ state)
    right g state number told (inl a) (inl b) =
        let here : number_in new g state ≡ Some place =
        ap (λ n. number_in new n state) a ∙ (ap (number_in new entry.2) b ∙ is.here) in
        let same : place ≡ number = same_Some place number (sym here ∙ told) in
        (entry, ap (slice_get order) (sym same) ∙ there, sym a, sym b)
    right g state number told (inl a) (inr b) =
        old.right g state number (sym (is.elsewhere g state (inr b)) ∙ told)
    right g state number told (inr a) b =
        old.right g state number (sym (is.elsewhere g state (inl a)) ∙ told)

    before : (p : ℕ) (other : Entry) → p < place + 1 → slice_get order p ≡ Some other →
        (other.2 ≢ entry.2) ⊎ (other.3 ≢ entry.3) → (other ≡ entry → ⊥) →
        (number : ℕ) × (number_in new other.2 other.3 ≡ Some number)
    before p other lt at elsewhere apart =
        let low : p < place = elim (less_or p place) [
          | inl l ↦ l
          | inr m ↦
              let e : p ≡ place = omega (arith, m, lt) in
              absurd (apart (same_Some other entry
              (sym at ∙ (ap (λ k. slice_get order k) e ∙ there))))
        ] in
        let o = old.each p other low at in
        (o.0, is.elsewhere other.2 other.3 elsewhere ∙ o.1)

    each : (p : ℕ) (other : Entry) → p < place + 1 → slice_get order p ≡ Some other →
        (other.2 ≡ entry.2) ⊎ (other.2 ≢ entry.2) → (other.3 ≡ entry.3) ⊎ (other.3 ≢ entry.3) →
        (number : ℕ) × (number_in new other.2 other.3 ≡ Some number)
    each p other lt at (inl a) (inl b) = (
      place,
      ap (λ n. number_in new n other.3) a ∙ (ap (number_in new entry.2) b ∙ is.here),
    )
    each p other lt at (inl a) (inr b) =
        before p other lt at (inr b) (λ e. b (ap (λ (x : Entry). x.3) e))
    each p other lt at (inr a) b =
        before p other lt at (inl a) (λ e. a (ap (λ (x : Entry). x.2) e))
